use Rattle.std.proofs.Common.{◌≡◌, ◌≤◌, map, length, string_bytes}
use Rattle.je_pool.proofs.AskingLemmas.{Gone}
use Rattle.je_pool.proofs.search.first_file.Given as goal

-- the folders before those that are left were asked
abbrev pub invariant-loop-root : goal.invariant-loop-root
invariant-loop-root g l =
    record {
      gone : Gone (map string_bytes l.roots) (map string_bytes l.left) l.name (g.F.Files.contents l.initial.files) (g.F.Files.asked l.initial.files) (g.F.Files.asked l.files);
      contents : g.F.Files.contents l.files ≡ g.F.Files.contents l.initial.files;
      writes : g.F.Files.writes l.files ≡ g.F.Files.writes l.initial.files;
      faults : g.F.Files.faults l.initial.files ≤ g.F.Files.faults l.files;
      failed : l.failed ≡ l.initial.failed;
    }

abbrev pub decreases-loop-root : goal.decreases-loop-root
decreases-loop-root g l = length l.left
