-- A slot in the three ways that its order sees.
use Rattle.je_shape.specs.declared.view.Word.{Word}
use Rattle.je_shape.specs.declared.view.Word.TheVariants as words
use Rattle.je_shape.specs.declared.view.View.{View}
use Rattle.je_shape.specs.declared.view.View.TheVariants as views
use Rattle.je_shape.specs.Slot as known

abbrev pub word_seen : Word → known.Word
word_seen words.Int = known.IntWord
word_seen words.Float = known.FloatWord
word_seen words.Long = known.LongWord
word_seen words.Double = known.DoubleWord
word_seen words.UninitThis = known.UninitThis
word_seen (words.Uninit new) = known.Uninit new

abbrev pub view_seen : View → known.Slot
view_seen views.Unused = known.Top
view_seen (views.Alone word) = known.Is (word_seen word)
view_seen (views.Names names) = known.Reference names.now
