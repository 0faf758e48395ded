use Rattle.je_class.proofs.SoundParts.{HasSoundParts-sound}
use Rattle.je_class.proofs.class_file.ClassFile.sound.Goals as goal

pub returns-clause-parts : goal.returns-clause-parts
returns-clause-parts c = HasSoundParts-sound c.args.self.now c.parts.ensures.sound
