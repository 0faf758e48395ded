-- Results of arithmetic on longs, as a JVM printed them (JVMS 6.5, ladd to lrem and lneg).
-- `checks/machine_rows` compares them with a JVM's, and with `--print` prints them.
use Rattle.std.specs.Prelude.{ℤ, pos, List, [], ◌∷◌}
use Rattle.je_machine.specs.Rows.{minus, with_each}

abbrev pub long_sums : List (ℤ × List ℤ)
long_sums =
    with_each (pos 0) (pos 0 ∷ pos 1 ∷ minus 1 ∷ pos 2 ∷ minus 2 ∷ pos 7 ∷ minus 7 ∷ pos 65536 ∷
    pos 2147483647 ∷ pos 2147483648 ∷ minus 2147483648 ∷ minus 2147483649 ∷ pos 4294967295 ∷
    pos 4294967296 ∷ minus 4294967297 ∷ minus 9223372036854775808 ∷ minus 9223372036854775807 ∷
    pos 9223372036854775806 ∷ pos 9223372036854775807 ∷ [])
    ∷ with_each (pos 1) (pos 1 ∷ pos 2 ∷ pos 0 ∷ pos 3 ∷ minus 1 ∷ pos 8 ∷ minus 6 ∷ pos 65537 ∷
    pos 2147483648 ∷ pos 2147483649 ∷ minus 2147483647 ∷ minus 2147483648 ∷ pos 4294967296 ∷
    pos 4294967297 ∷ minus 4294967296 ∷ minus 9223372036854775807 ∷ minus 9223372036854775806 ∷
    pos 9223372036854775807 ∷ minus 9223372036854775808 ∷ [])
    ∷ with_each (minus 1) (minus 1 ∷ pos 0 ∷ minus 2 ∷ pos 1 ∷ minus 3 ∷ pos 6 ∷ minus 8 ∷
    pos 65535 ∷ pos 2147483646 ∷ pos 2147483647 ∷ minus 2147483649 ∷ minus 2147483650 ∷
    pos 4294967294 ∷ pos 4294967295 ∷ minus 4294967298 ∷ pos 9223372036854775807 ∷
    minus 9223372036854775808 ∷ pos 9223372036854775805 ∷ pos 9223372036854775806 ∷ [])
    ∷ with_each (pos 2) (pos 2 ∷ pos 3 ∷ pos 1 ∷ pos 4 ∷ pos 0 ∷ pos 9 ∷ minus 5 ∷ pos 65538 ∷
    pos 2147483649 ∷ pos 2147483650 ∷ minus 2147483646 ∷ minus 2147483647 ∷ pos 4294967297 ∷
    pos 4294967298 ∷ minus 4294967295 ∷ minus 9223372036854775806 ∷ minus 9223372036854775805 ∷
    minus 9223372036854775808 ∷ minus 9223372036854775807 ∷ [])
    ∷ with_each (minus 2) (minus 2 ∷ minus 1 ∷ minus 3 ∷ pos 0 ∷ minus 4 ∷ pos 5 ∷ minus 9 ∷
    pos 65534 ∷ pos 2147483645 ∷ pos 2147483646 ∷ minus 2147483650 ∷ minus 2147483651 ∷
    pos 4294967293 ∷ pos 4294967294 ∷ minus 4294967299 ∷ pos 9223372036854775806 ∷
    pos 9223372036854775807 ∷ pos 9223372036854775804 ∷ pos 9223372036854775805 ∷ [])
    ∷ with_each (pos 7) (pos 7 ∷ pos 8 ∷ pos 6 ∷ pos 9 ∷ pos 5 ∷ pos 14 ∷ pos 0 ∷ pos 65543 ∷
    pos 2147483654 ∷ pos 2147483655 ∷ minus 2147483641 ∷ minus 2147483642 ∷ pos 4294967302 ∷
    pos 4294967303 ∷ minus 4294967290 ∷ minus 9223372036854775801 ∷ minus 9223372036854775800 ∷
    minus 9223372036854775803 ∷ minus 9223372036854775802 ∷ [])
    ∷ with_each (minus 7) (minus 7 ∷ minus 6 ∷ minus 8 ∷ minus 5 ∷ minus 9 ∷ pos 0 ∷ minus 14 ∷
    pos 65529 ∷ pos 2147483640 ∷ pos 2147483641 ∷ minus 2147483655 ∷ minus 2147483656 ∷
    pos 4294967288 ∷ pos 4294967289 ∷ minus 4294967304 ∷ pos 9223372036854775801 ∷
    pos 9223372036854775802 ∷ pos 9223372036854775799 ∷ pos 9223372036854775800 ∷ [])
    ∷ with_each (pos 65536) (pos 65536 ∷ pos 65537 ∷ pos 65535 ∷ pos 65538 ∷ pos 65534 ∷ pos 65543 ∷
    pos 65529 ∷ pos 131072 ∷ pos 2147549183 ∷ pos 2147549184 ∷ minus 2147418112 ∷ minus 2147418113 ∷
    pos 4295032831 ∷ pos 4295032832 ∷ minus 4294901761 ∷ minus 9223372036854710272 ∷
    minus 9223372036854710271 ∷ minus 9223372036854710274 ∷ minus 9223372036854710273 ∷ [])
    ∷ with_each (pos 2147483647) (pos 2147483647 ∷ pos 2147483648 ∷ pos 2147483646 ∷
    pos 2147483649 ∷ pos 2147483645 ∷ pos 2147483654 ∷ pos 2147483640 ∷ pos 2147549183 ∷
    pos 4294967294 ∷ pos 4294967295 ∷ minus 1 ∷ minus 2 ∷ pos 6442450942 ∷ pos 6442450943 ∷
    minus 2147483650 ∷ minus 9223372034707292161 ∷ minus 9223372034707292160 ∷
    minus 9223372034707292163 ∷ minus 9223372034707292162 ∷ [])
    ∷ with_each (pos 2147483648) (pos 2147483648 ∷ pos 2147483649 ∷ pos 2147483647 ∷
    pos 2147483650 ∷ pos 2147483646 ∷ pos 2147483655 ∷ pos 2147483641 ∷ pos 2147549184 ∷
    pos 4294967295 ∷ pos 4294967296 ∷ pos 0 ∷ minus 1 ∷ pos 6442450943 ∷ pos 6442450944 ∷
    minus 2147483649 ∷ minus 9223372034707292160 ∷ minus 9223372034707292159 ∷
    minus 9223372034707292162 ∷ minus 9223372034707292161 ∷ [])
    ∷ with_each (minus 2147483648) (minus 2147483648 ∷ minus 2147483647 ∷ minus 2147483649 ∷
    minus 2147483646 ∷ minus 2147483650 ∷ minus 2147483641 ∷ minus 2147483655 ∷ minus 2147418112 ∷
    minus 1 ∷ pos 0 ∷ minus 4294967296 ∷ minus 4294967297 ∷ pos 2147483647 ∷ pos 2147483648 ∷
    minus 6442450945 ∷ pos 9223372034707292160 ∷ pos 9223372034707292161 ∷ pos 9223372034707292158 ∷
    pos 9223372034707292159 ∷ [])
    ∷ with_each (minus 2147483649) (minus 2147483649 ∷ minus 2147483648 ∷ minus 2147483650 ∷
    minus 2147483647 ∷ minus 2147483651 ∷ minus 2147483642 ∷ minus 2147483656 ∷ minus 2147418113 ∷
    minus 2 ∷ minus 1 ∷ minus 4294967297 ∷ minus 4294967298 ∷ pos 2147483646 ∷ pos 2147483647 ∷
    minus 6442450946 ∷ pos 9223372034707292159 ∷ pos 9223372034707292160 ∷ pos 9223372034707292157 ∷
    pos 9223372034707292158 ∷ [])
    ∷ with_each (pos 4294967295) (pos 4294967295 ∷ pos 4294967296 ∷ pos 4294967294 ∷
    pos 4294967297 ∷ pos 4294967293 ∷ pos 4294967302 ∷ pos 4294967288 ∷ pos 4295032831 ∷
    pos 6442450942 ∷ pos 6442450943 ∷ pos 2147483647 ∷ pos 2147483646 ∷ pos 8589934590 ∷
    pos 8589934591 ∷ minus 2 ∷ minus 9223372032559808513 ∷ minus 9223372032559808512 ∷
    minus 9223372032559808515 ∷ minus 9223372032559808514 ∷ [])
    ∷ with_each (pos 4294967296) (pos 4294967296 ∷ pos 4294967297 ∷ pos 4294967295 ∷
    pos 4294967298 ∷ pos 4294967294 ∷ pos 4294967303 ∷ pos 4294967289 ∷ pos 4295032832 ∷
    pos 6442450943 ∷ pos 6442450944 ∷ pos 2147483648 ∷ pos 2147483647 ∷ pos 8589934591 ∷
    pos 8589934592 ∷ minus 1 ∷ minus 9223372032559808512 ∷ minus 9223372032559808511 ∷
    minus 9223372032559808514 ∷ minus 9223372032559808513 ∷ [])
    ∷ with_each (minus 4294967297) (minus 4294967297 ∷ minus 4294967296 ∷ minus 4294967298 ∷
    minus 4294967295 ∷ minus 4294967299 ∷ minus 4294967290 ∷ minus 4294967304 ∷ minus 4294901761 ∷
    minus 2147483650 ∷ minus 2147483649 ∷ minus 6442450945 ∷ minus 6442450946 ∷ minus 2 ∷ minus 1 ∷
    minus 8589934594 ∷ pos 9223372032559808511 ∷ pos 9223372032559808512 ∷ pos 9223372032559808509 ∷
    pos 9223372032559808510 ∷ [])
    ∷ with_each (minus 9223372036854775808) (minus 9223372036854775808 ∷ minus 9223372036854775807 ∷
    pos 9223372036854775807 ∷ minus 9223372036854775806 ∷ pos 9223372036854775806 ∷
    minus 9223372036854775801 ∷ pos 9223372036854775801 ∷ minus 9223372036854710272 ∷
    minus 9223372034707292161 ∷ minus 9223372034707292160 ∷ pos 9223372034707292160 ∷
    pos 9223372034707292159 ∷ minus 9223372032559808513 ∷ minus 9223372032559808512 ∷
    pos 9223372032559808511 ∷ pos 0 ∷ pos 1 ∷ minus 2 ∷ minus 1 ∷ [])
    ∷ with_each (minus 9223372036854775807) (minus 9223372036854775807 ∷ minus 9223372036854775806 ∷
    minus 9223372036854775808 ∷ minus 9223372036854775805 ∷ pos 9223372036854775807 ∷
    minus 9223372036854775800 ∷ pos 9223372036854775802 ∷ minus 9223372036854710271 ∷
    minus 9223372034707292160 ∷ minus 9223372034707292159 ∷ pos 9223372034707292161 ∷
    pos 9223372034707292160 ∷ minus 9223372032559808512 ∷ minus 9223372032559808511 ∷
    pos 9223372032559808512 ∷ pos 1 ∷ pos 2 ∷ minus 1 ∷ pos 0 ∷ [])
    ∷ with_each (pos 9223372036854775806) (pos 9223372036854775806 ∷ pos 9223372036854775807 ∷
    pos 9223372036854775805 ∷ minus 9223372036854775808 ∷ pos 9223372036854775804 ∷
    minus 9223372036854775803 ∷ pos 9223372036854775799 ∷ minus 9223372036854710274 ∷
    minus 9223372034707292163 ∷ minus 9223372034707292162 ∷ pos 9223372034707292158 ∷
    pos 9223372034707292157 ∷ minus 9223372032559808515 ∷ minus 9223372032559808514 ∷
    pos 9223372032559808509 ∷ minus 2 ∷ minus 1 ∷ minus 4 ∷ minus 3 ∷ [])
    ∷ with_each (pos 9223372036854775807) (pos 9223372036854775807 ∷ minus 9223372036854775808 ∷
    pos 9223372036854775806 ∷ minus 9223372036854775807 ∷ pos 9223372036854775805 ∷
    minus 9223372036854775802 ∷ pos 9223372036854775800 ∷ minus 9223372036854710273 ∷
    minus 9223372034707292162 ∷ minus 9223372034707292161 ∷ pos 9223372034707292159 ∷
    pos 9223372034707292158 ∷ minus 9223372032559808514 ∷ minus 9223372032559808513 ∷
    pos 9223372032559808510 ∷ minus 1 ∷ pos 0 ∷ minus 3 ∷ minus 2 ∷ [])
    ∷ []

abbrev pub long_differences : List (ℤ × List ℤ)
long_differences =
    with_each (pos 0) (pos 0 ∷ minus 1 ∷ pos 1 ∷ minus 2 ∷ pos 2 ∷ minus 7 ∷ pos 7 ∷ minus 65536 ∷
    minus 2147483647 ∷ minus 2147483648 ∷ pos 2147483648 ∷ pos 2147483649 ∷ minus 4294967295 ∷
    minus 4294967296 ∷ pos 4294967297 ∷ minus 9223372036854775808 ∷ pos 9223372036854775807 ∷
    minus 9223372036854775806 ∷ minus 9223372036854775807 ∷ [])
    ∷ with_each (pos 1) (pos 1 ∷ pos 0 ∷ pos 2 ∷ minus 1 ∷ pos 3 ∷ minus 6 ∷ pos 8 ∷ minus 65535 ∷
    minus 2147483646 ∷ minus 2147483647 ∷ pos 2147483649 ∷ pos 2147483650 ∷ minus 4294967294 ∷
    minus 4294967295 ∷ pos 4294967298 ∷ minus 9223372036854775807 ∷ minus 9223372036854775808 ∷
    minus 9223372036854775805 ∷ minus 9223372036854775806 ∷ [])
    ∷ with_each (minus 1) (minus 1 ∷ minus 2 ∷ pos 0 ∷ minus 3 ∷ pos 1 ∷ minus 8 ∷ pos 6 ∷
    minus 65537 ∷ minus 2147483648 ∷ minus 2147483649 ∷ pos 2147483647 ∷ pos 2147483648 ∷
    minus 4294967296 ∷ minus 4294967297 ∷ pos 4294967296 ∷ pos 9223372036854775807 ∷
    pos 9223372036854775806 ∷ minus 9223372036854775807 ∷ minus 9223372036854775808 ∷ [])
    ∷ with_each (pos 2) (pos 2 ∷ pos 1 ∷ pos 3 ∷ pos 0 ∷ pos 4 ∷ minus 5 ∷ pos 9 ∷ minus 65534 ∷
    minus 2147483645 ∷ minus 2147483646 ∷ pos 2147483650 ∷ pos 2147483651 ∷ minus 4294967293 ∷
    minus 4294967294 ∷ pos 4294967299 ∷ minus 9223372036854775806 ∷ minus 9223372036854775807 ∷
    minus 9223372036854775804 ∷ minus 9223372036854775805 ∷ [])
    ∷ with_each (minus 2) (minus 2 ∷ minus 3 ∷ minus 1 ∷ minus 4 ∷ pos 0 ∷ minus 9 ∷ pos 5 ∷
    minus 65538 ∷ minus 2147483649 ∷ minus 2147483650 ∷ pos 2147483646 ∷ pos 2147483647 ∷
    minus 4294967297 ∷ minus 4294967298 ∷ pos 4294967295 ∷ pos 9223372036854775806 ∷
    pos 9223372036854775805 ∷ minus 9223372036854775808 ∷ pos 9223372036854775807 ∷ [])
    ∷ with_each (pos 7) (pos 7 ∷ pos 6 ∷ pos 8 ∷ pos 5 ∷ pos 9 ∷ pos 0 ∷ pos 14 ∷ minus 65529 ∷
    minus 2147483640 ∷ minus 2147483641 ∷ pos 2147483655 ∷ pos 2147483656 ∷ minus 4294967288 ∷
    minus 4294967289 ∷ pos 4294967304 ∷ minus 9223372036854775801 ∷ minus 9223372036854775802 ∷
    minus 9223372036854775799 ∷ minus 9223372036854775800 ∷ [])
    ∷ with_each (minus 7) (minus 7 ∷ minus 8 ∷ minus 6 ∷ minus 9 ∷ minus 5 ∷ minus 14 ∷ pos 0 ∷
    minus 65543 ∷ minus 2147483654 ∷ minus 2147483655 ∷ pos 2147483641 ∷ pos 2147483642 ∷
    minus 4294967302 ∷ minus 4294967303 ∷ pos 4294967290 ∷ pos 9223372036854775801 ∷
    pos 9223372036854775800 ∷ pos 9223372036854775803 ∷ pos 9223372036854775802 ∷ [])
    ∷ with_each (pos 65536) (pos 65536 ∷ pos 65535 ∷ pos 65537 ∷ pos 65534 ∷ pos 65538 ∷ pos 65529 ∷
    pos 65543 ∷ pos 0 ∷ minus 2147418111 ∷ minus 2147418112 ∷ pos 2147549184 ∷ pos 2147549185 ∷
    minus 4294901759 ∷ minus 4294901760 ∷ pos 4295032833 ∷ minus 9223372036854710272 ∷
    minus 9223372036854710273 ∷ minus 9223372036854710270 ∷ minus 9223372036854710271 ∷ [])
    ∷ with_each (pos 2147483647) (pos 2147483647 ∷ pos 2147483646 ∷ pos 2147483648 ∷
    pos 2147483645 ∷ pos 2147483649 ∷ pos 2147483640 ∷ pos 2147483654 ∷ pos 2147418111 ∷ pos 0 ∷
    minus 1 ∷ pos 4294967295 ∷ pos 4294967296 ∷ minus 2147483648 ∷ minus 2147483649 ∷
    pos 6442450944 ∷ minus 9223372034707292161 ∷ minus 9223372034707292162 ∷
    minus 9223372034707292159 ∷ minus 9223372034707292160 ∷ [])
    ∷ with_each (pos 2147483648) (pos 2147483648 ∷ pos 2147483647 ∷ pos 2147483649 ∷
    pos 2147483646 ∷ pos 2147483650 ∷ pos 2147483641 ∷ pos 2147483655 ∷ pos 2147418112 ∷ pos 1 ∷
    pos 0 ∷ pos 4294967296 ∷ pos 4294967297 ∷ minus 2147483647 ∷ minus 2147483648 ∷ pos 6442450945 ∷
    minus 9223372034707292160 ∷ minus 9223372034707292161 ∷ minus 9223372034707292158 ∷
    minus 9223372034707292159 ∷ [])
    ∷ with_each (minus 2147483648) (minus 2147483648 ∷ minus 2147483649 ∷ minus 2147483647 ∷
    minus 2147483650 ∷ minus 2147483646 ∷ minus 2147483655 ∷ minus 2147483641 ∷ minus 2147549184 ∷
    minus 4294967295 ∷ minus 4294967296 ∷ pos 0 ∷ pos 1 ∷ minus 6442450943 ∷ minus 6442450944 ∷
    pos 2147483649 ∷ pos 9223372034707292160 ∷ pos 9223372034707292159 ∷ pos 9223372034707292162 ∷
    pos 9223372034707292161 ∷ [])
    ∷ with_each (minus 2147483649) (minus 2147483649 ∷ minus 2147483650 ∷ minus 2147483648 ∷
    minus 2147483651 ∷ minus 2147483647 ∷ minus 2147483656 ∷ minus 2147483642 ∷ minus 2147549185 ∷
    minus 4294967296 ∷ minus 4294967297 ∷ minus 1 ∷ pos 0 ∷ minus 6442450944 ∷ minus 6442450945 ∷
    pos 2147483648 ∷ pos 9223372034707292159 ∷ pos 9223372034707292158 ∷ pos 9223372034707292161 ∷
    pos 9223372034707292160 ∷ [])
    ∷ with_each (pos 4294967295) (pos 4294967295 ∷ pos 4294967294 ∷ pos 4294967296 ∷
    pos 4294967293 ∷ pos 4294967297 ∷ pos 4294967288 ∷ pos 4294967302 ∷ pos 4294901759 ∷
    pos 2147483648 ∷ pos 2147483647 ∷ pos 6442450943 ∷ pos 6442450944 ∷ pos 0 ∷ minus 1 ∷
    pos 8589934592 ∷ minus 9223372032559808513 ∷ minus 9223372032559808514 ∷
    minus 9223372032559808511 ∷ minus 9223372032559808512 ∷ [])
    ∷ with_each (pos 4294967296) (pos 4294967296 ∷ pos 4294967295 ∷ pos 4294967297 ∷
    pos 4294967294 ∷ pos 4294967298 ∷ pos 4294967289 ∷ pos 4294967303 ∷ pos 4294901760 ∷
    pos 2147483649 ∷ pos 2147483648 ∷ pos 6442450944 ∷ pos 6442450945 ∷ pos 1 ∷ pos 0 ∷
    pos 8589934593 ∷ minus 9223372032559808512 ∷ minus 9223372032559808513 ∷
    minus 9223372032559808510 ∷ minus 9223372032559808511 ∷ [])
    ∷ with_each (minus 4294967297) (minus 4294967297 ∷ minus 4294967298 ∷ minus 4294967296 ∷
    minus 4294967299 ∷ minus 4294967295 ∷ minus 4294967304 ∷ minus 4294967290 ∷ minus 4295032833 ∷
    minus 6442450944 ∷ minus 6442450945 ∷ minus 2147483649 ∷ minus 2147483648 ∷ minus 8589934592 ∷
    minus 8589934593 ∷ pos 0 ∷ pos 9223372032559808511 ∷ pos 9223372032559808510 ∷
    pos 9223372032559808513 ∷ pos 9223372032559808512 ∷ [])
    ∷ with_each (minus 9223372036854775808) (minus 9223372036854775808 ∷ pos 9223372036854775807 ∷
    minus 9223372036854775807 ∷ pos 9223372036854775806 ∷ minus 9223372036854775806 ∷
    pos 9223372036854775801 ∷ minus 9223372036854775801 ∷ pos 9223372036854710272 ∷
    pos 9223372034707292161 ∷ pos 9223372034707292160 ∷ minus 9223372034707292160 ∷
    minus 9223372034707292159 ∷ pos 9223372032559808513 ∷ pos 9223372032559808512 ∷
    minus 9223372032559808511 ∷ pos 0 ∷ minus 1 ∷ pos 2 ∷ pos 1 ∷ [])
    ∷ with_each (minus 9223372036854775807) (minus 9223372036854775807 ∷ minus 9223372036854775808 ∷
    minus 9223372036854775806 ∷ pos 9223372036854775807 ∷ minus 9223372036854775805 ∷
    pos 9223372036854775802 ∷ minus 9223372036854775800 ∷ pos 9223372036854710273 ∷
    pos 9223372034707292162 ∷ pos 9223372034707292161 ∷ minus 9223372034707292159 ∷
    minus 9223372034707292158 ∷ pos 9223372032559808514 ∷ pos 9223372032559808513 ∷
    minus 9223372032559808510 ∷ pos 1 ∷ pos 0 ∷ pos 3 ∷ pos 2 ∷ [])
    ∷ with_each (pos 9223372036854775806) (pos 9223372036854775806 ∷ pos 9223372036854775805 ∷
    pos 9223372036854775807 ∷ pos 9223372036854775804 ∷ minus 9223372036854775808 ∷
    pos 9223372036854775799 ∷ minus 9223372036854775803 ∷ pos 9223372036854710270 ∷
    pos 9223372034707292159 ∷ pos 9223372034707292158 ∷ minus 9223372034707292162 ∷
    minus 9223372034707292161 ∷ pos 9223372032559808511 ∷ pos 9223372032559808510 ∷
    minus 9223372032559808513 ∷ minus 2 ∷ minus 3 ∷ pos 0 ∷ minus 1 ∷ [])
    ∷ with_each (pos 9223372036854775807) (pos 9223372036854775807 ∷ pos 9223372036854775806 ∷
    minus 9223372036854775808 ∷ pos 9223372036854775805 ∷ minus 9223372036854775807 ∷
    pos 9223372036854775800 ∷ minus 9223372036854775802 ∷ pos 9223372036854710271 ∷
    pos 9223372034707292160 ∷ pos 9223372034707292159 ∷ minus 9223372034707292161 ∷
    minus 9223372034707292160 ∷ pos 9223372032559808512 ∷ pos 9223372032559808511 ∷
    minus 9223372032559808512 ∷ minus 1 ∷ minus 2 ∷ pos 1 ∷ pos 0 ∷ [])
    ∷ []

abbrev pub long_products : List (ℤ × List ℤ)
long_products =
    with_each (pos 0) (pos 0 ∷ pos 0 ∷ pos 0 ∷ pos 0 ∷ pos 0 ∷ pos 0 ∷ pos 0 ∷ pos 0 ∷ pos 0 ∷
    pos 0 ∷ pos 0 ∷ pos 0 ∷ pos 0 ∷ pos 0 ∷ pos 0 ∷ pos 0 ∷ pos 0 ∷ pos 0 ∷ pos 0 ∷ [])
    ∷ with_each (pos 1) (pos 0 ∷ pos 1 ∷ minus 1 ∷ pos 2 ∷ minus 2 ∷ pos 7 ∷ minus 7 ∷ pos 65536 ∷
    pos 2147483647 ∷ pos 2147483648 ∷ minus 2147483648 ∷ minus 2147483649 ∷ pos 4294967295 ∷
    pos 4294967296 ∷ minus 4294967297 ∷ minus 9223372036854775808 ∷ minus 9223372036854775807 ∷
    pos 9223372036854775806 ∷ pos 9223372036854775807 ∷ [])
    ∷ with_each (minus 1) (pos 0 ∷ minus 1 ∷ pos 1 ∷ minus 2 ∷ pos 2 ∷ minus 7 ∷ pos 7 ∷
    minus 65536 ∷ minus 2147483647 ∷ minus 2147483648 ∷ pos 2147483648 ∷ pos 2147483649 ∷
    minus 4294967295 ∷ minus 4294967296 ∷ pos 4294967297 ∷ minus 9223372036854775808 ∷
    pos 9223372036854775807 ∷ minus 9223372036854775806 ∷ minus 9223372036854775807 ∷ [])
    ∷ with_each (pos 2) (pos 0 ∷ pos 2 ∷ minus 2 ∷ pos 4 ∷ minus 4 ∷ pos 14 ∷ minus 14 ∷
    pos 131072 ∷ pos 4294967294 ∷ pos 4294967296 ∷ minus 4294967296 ∷ minus 4294967298 ∷
    pos 8589934590 ∷ pos 8589934592 ∷ minus 8589934594 ∷ pos 0 ∷ pos 2 ∷ minus 4 ∷ minus 2 ∷ [])
    ∷ with_each (minus 2) (pos 0 ∷ minus 2 ∷ pos 2 ∷ minus 4 ∷ pos 4 ∷ minus 14 ∷ pos 14 ∷
    minus 131072 ∷ minus 4294967294 ∷ minus 4294967296 ∷ pos 4294967296 ∷ pos 4294967298 ∷
    minus 8589934590 ∷ minus 8589934592 ∷ pos 8589934594 ∷ pos 0 ∷ minus 2 ∷ pos 4 ∷ pos 2 ∷ [])
    ∷ with_each (pos 7) (pos 0 ∷ pos 7 ∷ minus 7 ∷ pos 14 ∷ minus 14 ∷ pos 49 ∷ minus 49 ∷
    pos 458752 ∷ pos 15032385529 ∷ pos 15032385536 ∷ minus 15032385536 ∷ minus 15032385543 ∷
    pos 30064771065 ∷ pos 30064771072 ∷ minus 30064771079 ∷ minus 9223372036854775808 ∷
    minus 9223372036854775801 ∷ pos 9223372036854775794 ∷ pos 9223372036854775801 ∷ [])
    ∷ with_each (minus 7) (pos 0 ∷ minus 7 ∷ pos 7 ∷ minus 14 ∷ pos 14 ∷ minus 49 ∷ pos 49 ∷
    minus 458752 ∷ minus 15032385529 ∷ minus 15032385536 ∷ pos 15032385536 ∷ pos 15032385543 ∷
    minus 30064771065 ∷ minus 30064771072 ∷ pos 30064771079 ∷ minus 9223372036854775808 ∷
    pos 9223372036854775801 ∷ minus 9223372036854775794 ∷ minus 9223372036854775801 ∷ [])
    ∷ with_each (pos 65536) (pos 0 ∷ pos 65536 ∷ minus 65536 ∷ pos 131072 ∷ minus 131072 ∷
    pos 458752 ∷ minus 458752 ∷ pos 4294967296 ∷ pos 140737488289792 ∷ pos 140737488355328 ∷
    minus 140737488355328 ∷ minus 140737488420864 ∷ pos 281474976645120 ∷ pos 281474976710656 ∷
    minus 281474976776192 ∷ pos 0 ∷ pos 65536 ∷ minus 131072 ∷ minus 65536 ∷ [])
    ∷ with_each (pos 2147483647) (pos 0 ∷ pos 2147483647 ∷ minus 2147483647 ∷ pos 4294967294 ∷
    minus 4294967294 ∷ pos 15032385529 ∷ minus 15032385529 ∷ pos 140737488289792 ∷
    pos 4611686014132420609 ∷ pos 4611686016279904256 ∷ minus 4611686016279904256 ∷
    minus 4611686018427387903 ∷ pos 9223372030412324865 ∷ pos 9223372032559808512 ∷
    minus 9223372034707292159 ∷ minus 9223372036854775808 ∷ minus 9223372034707292161 ∷
    pos 9223372032559808514 ∷ pos 9223372034707292161 ∷ [])
    ∷ with_each (pos 2147483648) (pos 0 ∷ pos 2147483648 ∷ minus 2147483648 ∷ pos 4294967296 ∷
    minus 4294967296 ∷ pos 15032385536 ∷ minus 15032385536 ∷ pos 140737488355328 ∷
    pos 4611686016279904256 ∷ pos 4611686018427387904 ∷ minus 4611686018427387904 ∷
    minus 4611686020574871552 ∷ pos 9223372034707292160 ∷ minus 9223372036854775808 ∷
    pos 9223372034707292160 ∷ pos 0 ∷ pos 2147483648 ∷ minus 4294967296 ∷ minus 2147483648 ∷ [])
    ∷ with_each (minus 2147483648) (pos 0 ∷ minus 2147483648 ∷ pos 2147483648 ∷ minus 4294967296 ∷
    pos 4294967296 ∷ minus 15032385536 ∷ pos 15032385536 ∷ minus 140737488355328 ∷
    minus 4611686016279904256 ∷ minus 4611686018427387904 ∷ pos 4611686018427387904 ∷
    pos 4611686020574871552 ∷ minus 9223372034707292160 ∷ minus 9223372036854775808 ∷
    minus 9223372034707292160 ∷ pos 0 ∷ minus 2147483648 ∷ pos 4294967296 ∷ pos 2147483648 ∷ [])
    ∷ with_each (minus 2147483649) (pos 0 ∷ minus 2147483649 ∷ pos 2147483649 ∷ minus 4294967298 ∷
    pos 4294967298 ∷ minus 15032385543 ∷ pos 15032385543 ∷ minus 140737488420864 ∷
    minus 4611686018427387903 ∷ minus 4611686020574871552 ∷ pos 4611686020574871552 ∷
    pos 4611686022722355201 ∷ pos 9223372034707292161 ∷ pos 9223372032559808512 ∷
    minus 9223372030412324863 ∷ minus 9223372036854775808 ∷ pos 9223372034707292159 ∷
    minus 9223372032559808510 ∷ minus 9223372034707292159 ∷ [])
    ∷ with_each (pos 4294967295) (pos 0 ∷ pos 4294967295 ∷ minus 4294967295 ∷ pos 8589934590 ∷
    minus 8589934590 ∷ pos 30064771065 ∷ minus 30064771065 ∷ pos 281474976645120 ∷
    pos 9223372030412324865 ∷ pos 9223372034707292160 ∷ minus 9223372034707292160 ∷
    pos 9223372034707292161 ∷ minus 8589934591 ∷ minus 4294967296 ∷ pos 1 ∷
    minus 9223372036854775808 ∷ minus 9223372032559808513 ∷ pos 9223372028264841218 ∷
    pos 9223372032559808513 ∷ [])
    ∷ with_each (pos 4294967296) (pos 0 ∷ pos 4294967296 ∷ minus 4294967296 ∷ pos 8589934592 ∷
    minus 8589934592 ∷ pos 30064771072 ∷ minus 30064771072 ∷ pos 281474976710656 ∷
    pos 9223372032559808512 ∷ minus 9223372036854775808 ∷ minus 9223372036854775808 ∷
    pos 9223372032559808512 ∷ minus 4294967296 ∷ pos 0 ∷ minus 4294967296 ∷ pos 0 ∷ pos 4294967296 ∷
    minus 8589934592 ∷ minus 4294967296 ∷ [])
    ∷ with_each (minus 4294967297) (pos 0 ∷ minus 4294967297 ∷ pos 4294967297 ∷ minus 8589934594 ∷
    pos 8589934594 ∷ minus 30064771079 ∷ pos 30064771079 ∷ minus 281474976776192 ∷
    minus 9223372034707292159 ∷ pos 9223372034707292160 ∷ minus 9223372034707292160 ∷
    minus 9223372030412324863 ∷ pos 1 ∷ minus 4294967296 ∷ pos 8589934593 ∷
    minus 9223372036854775808 ∷ pos 9223372032559808511 ∷ minus 9223372028264841214 ∷
    minus 9223372032559808511 ∷ [])
    ∷ with_each (minus 9223372036854775808) (pos 0 ∷ minus 9223372036854775808 ∷
    minus 9223372036854775808 ∷ pos 0 ∷ pos 0 ∷ minus 9223372036854775808 ∷
    minus 9223372036854775808 ∷ pos 0 ∷ minus 9223372036854775808 ∷ pos 0 ∷ pos 0 ∷
    minus 9223372036854775808 ∷ minus 9223372036854775808 ∷ pos 0 ∷ minus 9223372036854775808 ∷
    pos 0 ∷ minus 9223372036854775808 ∷ pos 0 ∷ minus 9223372036854775808 ∷ [])
    ∷ with_each (minus 9223372036854775807) (pos 0 ∷ minus 9223372036854775807 ∷
    pos 9223372036854775807 ∷ pos 2 ∷ minus 2 ∷ minus 9223372036854775801 ∷
    pos 9223372036854775801 ∷ pos 65536 ∷ minus 9223372034707292161 ∷ pos 2147483648 ∷
    minus 2147483648 ∷ pos 9223372034707292159 ∷ minus 9223372032559808513 ∷ pos 4294967296 ∷
    pos 9223372032559808511 ∷ minus 9223372036854775808 ∷ pos 1 ∷ pos 9223372036854775806 ∷
    minus 1 ∷ [])
    ∷ with_each (pos 9223372036854775806) (pos 0 ∷ pos 9223372036854775806 ∷
    minus 9223372036854775806 ∷ minus 4 ∷ pos 4 ∷ pos 9223372036854775794 ∷
    minus 9223372036854775794 ∷ minus 131072 ∷ pos 9223372032559808514 ∷ minus 4294967296 ∷
    pos 4294967296 ∷ minus 9223372032559808510 ∷ pos 9223372028264841218 ∷ minus 8589934592 ∷
    minus 9223372028264841214 ∷ pos 0 ∷ pos 9223372036854775806 ∷ pos 4 ∷
    minus 9223372036854775806 ∷ [])
    ∷ with_each (pos 9223372036854775807) (pos 0 ∷ pos 9223372036854775807 ∷
    minus 9223372036854775807 ∷ minus 2 ∷ pos 2 ∷ pos 9223372036854775801 ∷
    minus 9223372036854775801 ∷ minus 65536 ∷ pos 9223372034707292161 ∷ minus 2147483648 ∷
    pos 2147483648 ∷ minus 9223372034707292159 ∷ pos 9223372032559808513 ∷ minus 4294967296 ∷
    minus 9223372032559808511 ∷ minus 9223372036854775808 ∷ minus 1 ∷ minus 9223372036854775806 ∷
    pos 1 ∷ [])
    ∷ []

abbrev pub long_quotients : List (ℤ × List ℤ)
long_quotients =
    with_each (pos 0) (pos 0 ∷ pos 0 ∷ pos 0 ∷ pos 0 ∷ pos 0 ∷ pos 0 ∷ pos 0 ∷ pos 0 ∷ pos 0 ∷
    pos 0 ∷ pos 0 ∷ pos 0 ∷ pos 0 ∷ pos 0 ∷ pos 0 ∷ pos 0 ∷ pos 0 ∷ pos 0 ∷ [])
    ∷ with_each (pos 1) (pos 1 ∷ minus 1 ∷ pos 0 ∷ pos 0 ∷ pos 0 ∷ pos 0 ∷ pos 0 ∷ pos 0 ∷ pos 0 ∷
    pos 0 ∷ pos 0 ∷ pos 0 ∷ pos 0 ∷ pos 0 ∷ pos 0 ∷ pos 0 ∷ pos 0 ∷ pos 0 ∷ [])
    ∷ with_each (minus 1) (minus 1 ∷ pos 1 ∷ pos 0 ∷ pos 0 ∷ pos 0 ∷ pos 0 ∷ pos 0 ∷ pos 0 ∷ pos 0 ∷
    pos 0 ∷ pos 0 ∷ pos 0 ∷ pos 0 ∷ pos 0 ∷ pos 0 ∷ pos 0 ∷ pos 0 ∷ pos 0 ∷ [])
    ∷ with_each (pos 2) (pos 2 ∷ minus 2 ∷ pos 1 ∷ minus 1 ∷ pos 0 ∷ pos 0 ∷ pos 0 ∷ pos 0 ∷ pos 0 ∷
    pos 0 ∷ pos 0 ∷ pos 0 ∷ pos 0 ∷ pos 0 ∷ pos 0 ∷ pos 0 ∷ pos 0 ∷ pos 0 ∷ [])
    ∷ with_each (minus 2) (minus 2 ∷ pos 2 ∷ minus 1 ∷ pos 1 ∷ pos 0 ∷ pos 0 ∷ pos 0 ∷ pos 0 ∷
    pos 0 ∷ pos 0 ∷ pos 0 ∷ pos 0 ∷ pos 0 ∷ pos 0 ∷ pos 0 ∷ pos 0 ∷ pos 0 ∷ pos 0 ∷ [])
    ∷ with_each (pos 7) (pos 7 ∷ minus 7 ∷ pos 3 ∷ minus 3 ∷ pos 1 ∷ minus 1 ∷ pos 0 ∷ pos 0 ∷
    pos 0 ∷ pos 0 ∷ pos 0 ∷ pos 0 ∷ pos 0 ∷ pos 0 ∷ pos 0 ∷ pos 0 ∷ pos 0 ∷ pos 0 ∷ [])
    ∷ with_each (minus 7) (minus 7 ∷ pos 7 ∷ minus 3 ∷ pos 3 ∷ minus 1 ∷ pos 1 ∷ pos 0 ∷ pos 0 ∷
    pos 0 ∷ pos 0 ∷ pos 0 ∷ pos 0 ∷ pos 0 ∷ pos 0 ∷ pos 0 ∷ pos 0 ∷ pos 0 ∷ pos 0 ∷ [])
    ∷ with_each (pos 65536) (pos 65536 ∷ minus 65536 ∷ pos 32768 ∷ minus 32768 ∷ pos 9362 ∷
    minus 9362 ∷ pos 1 ∷ pos 0 ∷ pos 0 ∷ pos 0 ∷ pos 0 ∷ pos 0 ∷ pos 0 ∷ pos 0 ∷ pos 0 ∷ pos 0 ∷
    pos 0 ∷ pos 0 ∷ [])
    ∷ with_each (pos 2147483647) (pos 2147483647 ∷ minus 2147483647 ∷ pos 1073741823 ∷
    minus 1073741823 ∷ pos 306783378 ∷ minus 306783378 ∷ pos 32767 ∷ pos 1 ∷ pos 0 ∷ pos 0 ∷ pos 0 ∷
    pos 0 ∷ pos 0 ∷ pos 0 ∷ pos 0 ∷ pos 0 ∷ pos 0 ∷ pos 0 ∷ [])
    ∷ with_each (pos 2147483648) (pos 2147483648 ∷ minus 2147483648 ∷ pos 1073741824 ∷
    minus 1073741824 ∷ pos 306783378 ∷ minus 306783378 ∷ pos 32768 ∷ pos 1 ∷ pos 1 ∷ minus 1 ∷
    pos 0 ∷ pos 0 ∷ pos 0 ∷ pos 0 ∷ pos 0 ∷ pos 0 ∷ pos 0 ∷ pos 0 ∷ [])
    ∷ with_each (minus 2147483648) (minus 2147483648 ∷ pos 2147483648 ∷ minus 1073741824 ∷
    pos 1073741824 ∷ minus 306783378 ∷ pos 306783378 ∷ minus 32768 ∷ minus 1 ∷ minus 1 ∷ pos 1 ∷
    pos 0 ∷ pos 0 ∷ pos 0 ∷ pos 0 ∷ pos 0 ∷ pos 0 ∷ pos 0 ∷ pos 0 ∷ [])
    ∷ with_each (minus 2147483649) (minus 2147483649 ∷ pos 2147483649 ∷ minus 1073741824 ∷
    pos 1073741824 ∷ minus 306783378 ∷ pos 306783378 ∷ minus 32768 ∷ minus 1 ∷ minus 1 ∷ pos 1 ∷
    pos 1 ∷ pos 0 ∷ pos 0 ∷ pos 0 ∷ pos 0 ∷ pos 0 ∷ pos 0 ∷ pos 0 ∷ [])
    ∷ with_each (pos 4294967295) (pos 4294967295 ∷ minus 4294967295 ∷ pos 2147483647 ∷
    minus 2147483647 ∷ pos 613566756 ∷ minus 613566756 ∷ pos 65535 ∷ pos 2 ∷ pos 1 ∷ minus 1 ∷
    minus 1 ∷ pos 1 ∷ pos 0 ∷ pos 0 ∷ pos 0 ∷ pos 0 ∷ pos 0 ∷ pos 0 ∷ [])
    ∷ with_each (pos 4294967296) (pos 4294967296 ∷ minus 4294967296 ∷ pos 2147483648 ∷
    minus 2147483648 ∷ pos 613566756 ∷ minus 613566756 ∷ pos 65536 ∷ pos 2 ∷ pos 2 ∷ minus 2 ∷
    minus 1 ∷ pos 1 ∷ pos 1 ∷ pos 0 ∷ pos 0 ∷ pos 0 ∷ pos 0 ∷ pos 0 ∷ [])
    ∷ with_each (minus 4294967297) (minus 4294967297 ∷ pos 4294967297 ∷ minus 2147483648 ∷
    pos 2147483648 ∷ minus 613566756 ∷ pos 613566756 ∷ minus 65536 ∷ minus 2 ∷ minus 2 ∷ pos 2 ∷
    pos 1 ∷ minus 1 ∷ minus 1 ∷ pos 1 ∷ pos 0 ∷ pos 0 ∷ pos 0 ∷ pos 0 ∷ [])
    ∷ with_each (minus 9223372036854775808) (minus 9223372036854775808 ∷ minus 9223372036854775808 ∷
    minus 4611686018427387904 ∷ pos 4611686018427387904 ∷ minus 1317624576693539401 ∷
    pos 1317624576693539401 ∷ minus 140737488355328 ∷ minus 4294967298 ∷ minus 4294967296 ∷
    pos 4294967296 ∷ pos 4294967294 ∷ minus 2147483648 ∷ minus 2147483648 ∷ pos 2147483647 ∷ pos 1 ∷
    pos 1 ∷ minus 1 ∷ minus 1 ∷ [])
    ∷ with_each (minus 9223372036854775807) (minus 9223372036854775807 ∷ pos 9223372036854775807 ∷
    minus 4611686018427387903 ∷ pos 4611686018427387903 ∷ minus 1317624576693539401 ∷
    pos 1317624576693539401 ∷ minus 140737488355327 ∷ minus 4294967298 ∷ minus 4294967295 ∷
    pos 4294967295 ∷ pos 4294967294 ∷ minus 2147483648 ∷ minus 2147483647 ∷ pos 2147483647 ∷ pos 0 ∷
    pos 1 ∷ minus 1 ∷ minus 1 ∷ [])
    ∷ with_each (pos 9223372036854775806) (pos 9223372036854775806 ∷ minus 9223372036854775806 ∷
    pos 4611686018427387903 ∷ minus 4611686018427387903 ∷ pos 1317624576693539400 ∷
    minus 1317624576693539400 ∷ pos 140737488355327 ∷ pos 4294967298 ∷ pos 4294967295 ∷
    minus 4294967295 ∷ minus 4294967294 ∷ pos 2147483648 ∷ pos 2147483647 ∷ minus 2147483647 ∷
    pos 0 ∷ pos 0 ∷ pos 1 ∷ pos 0 ∷ [])
    ∷ with_each (pos 9223372036854775807) (pos 9223372036854775807 ∷ minus 9223372036854775807 ∷
    pos 4611686018427387903 ∷ minus 4611686018427387903 ∷ pos 1317624576693539401 ∷
    minus 1317624576693539401 ∷ pos 140737488355327 ∷ pos 4294967298 ∷ pos 4294967295 ∷
    minus 4294967295 ∷ minus 4294967294 ∷ pos 2147483648 ∷ pos 2147483647 ∷ minus 2147483647 ∷
    pos 0 ∷ minus 1 ∷ pos 1 ∷ pos 1 ∷ [])
    ∷ []

abbrev pub long_remainders : List (ℤ × List ℤ)
long_remainders =
    with_each (pos 0) (pos 0 ∷ pos 0 ∷ pos 0 ∷ pos 0 ∷ pos 0 ∷ pos 0 ∷ pos 0 ∷ pos 0 ∷ pos 0 ∷
    pos 0 ∷ pos 0 ∷ pos 0 ∷ pos 0 ∷ pos 0 ∷ pos 0 ∷ pos 0 ∷ pos 0 ∷ pos 0 ∷ [])
    ∷ with_each (pos 1) (pos 0 ∷ pos 0 ∷ pos 1 ∷ pos 1 ∷ pos 1 ∷ pos 1 ∷ pos 1 ∷ pos 1 ∷ pos 1 ∷
    pos 1 ∷ pos 1 ∷ pos 1 ∷ pos 1 ∷ pos 1 ∷ pos 1 ∷ pos 1 ∷ pos 1 ∷ pos 1 ∷ [])
    ∷ with_each (minus 1) (pos 0 ∷ pos 0 ∷ minus 1 ∷ minus 1 ∷ minus 1 ∷ minus 1 ∷ minus 1 ∷
    minus 1 ∷ minus 1 ∷ minus 1 ∷ minus 1 ∷ minus 1 ∷ minus 1 ∷ minus 1 ∷ minus 1 ∷ minus 1 ∷
    minus 1 ∷ minus 1 ∷ [])
    ∷ with_each (pos 2) (pos 0 ∷ pos 0 ∷ pos 0 ∷ pos 0 ∷ pos 2 ∷ pos 2 ∷ pos 2 ∷ pos 2 ∷ pos 2 ∷
    pos 2 ∷ pos 2 ∷ pos 2 ∷ pos 2 ∷ pos 2 ∷ pos 2 ∷ pos 2 ∷ pos 2 ∷ pos 2 ∷ [])
    ∷ with_each (minus 2) (pos 0 ∷ pos 0 ∷ pos 0 ∷ pos 0 ∷ minus 2 ∷ minus 2 ∷ minus 2 ∷ minus 2 ∷
    minus 2 ∷ minus 2 ∷ minus 2 ∷ minus 2 ∷ minus 2 ∷ minus 2 ∷ minus 2 ∷ minus 2 ∷ minus 2 ∷
    minus 2 ∷ [])
    ∷ with_each (pos 7) (pos 0 ∷ pos 0 ∷ pos 1 ∷ pos 1 ∷ pos 0 ∷ pos 0 ∷ pos 7 ∷ pos 7 ∷ pos 7 ∷
    pos 7 ∷ pos 7 ∷ pos 7 ∷ pos 7 ∷ pos 7 ∷ pos 7 ∷ pos 7 ∷ pos 7 ∷ pos 7 ∷ [])
    ∷ with_each (minus 7) (pos 0 ∷ pos 0 ∷ minus 1 ∷ minus 1 ∷ pos 0 ∷ pos 0 ∷ minus 7 ∷ minus 7 ∷
    minus 7 ∷ minus 7 ∷ minus 7 ∷ minus 7 ∷ minus 7 ∷ minus 7 ∷ minus 7 ∷ minus 7 ∷ minus 7 ∷
    minus 7 ∷ [])
    ∷ with_each (pos 65536) (pos 0 ∷ pos 0 ∷ pos 0 ∷ pos 0 ∷ pos 2 ∷ pos 2 ∷ pos 0 ∷ pos 65536 ∷
    pos 65536 ∷ pos 65536 ∷ pos 65536 ∷ pos 65536 ∷ pos 65536 ∷ pos 65536 ∷ pos 65536 ∷ pos 65536 ∷
    pos 65536 ∷ pos 65536 ∷ [])
    ∷ with_each (pos 2147483647) (pos 0 ∷ pos 0 ∷ pos 1 ∷ pos 1 ∷ pos 1 ∷ pos 1 ∷ pos 65535 ∷
    pos 0 ∷ pos 2147483647 ∷ pos 2147483647 ∷ pos 2147483647 ∷ pos 2147483647 ∷ pos 2147483647 ∷
    pos 2147483647 ∷ pos 2147483647 ∷ pos 2147483647 ∷ pos 2147483647 ∷ pos 2147483647 ∷ [])
    ∷ with_each (pos 2147483648) (pos 0 ∷ pos 0 ∷ pos 0 ∷ pos 0 ∷ pos 2 ∷ pos 2 ∷ pos 0 ∷ pos 1 ∷
    pos 0 ∷ pos 0 ∷ pos 2147483648 ∷ pos 2147483648 ∷ pos 2147483648 ∷ pos 2147483648 ∷
    pos 2147483648 ∷ pos 2147483648 ∷ pos 2147483648 ∷ pos 2147483648 ∷ [])
    ∷ with_each (minus 2147483648) (pos 0 ∷ pos 0 ∷ pos 0 ∷ pos 0 ∷ minus 2 ∷ minus 2 ∷ pos 0 ∷
    minus 1 ∷ pos 0 ∷ pos 0 ∷ minus 2147483648 ∷ minus 2147483648 ∷ minus 2147483648 ∷
    minus 2147483648 ∷ minus 2147483648 ∷ minus 2147483648 ∷ minus 2147483648 ∷ minus 2147483648 ∷
    [])
    ∷ with_each (minus 2147483649) (pos 0 ∷ pos 0 ∷ minus 1 ∷ minus 1 ∷ minus 3 ∷ minus 3 ∷
    minus 1 ∷ minus 2 ∷ minus 1 ∷ minus 1 ∷ pos 0 ∷ minus 2147483649 ∷ minus 2147483649 ∷
    minus 2147483649 ∷ minus 2147483649 ∷ minus 2147483649 ∷ minus 2147483649 ∷ minus 2147483649 ∷
    [])
    ∷ with_each (pos 4294967295) (pos 0 ∷ pos 0 ∷ pos 1 ∷ pos 1 ∷ pos 3 ∷ pos 3 ∷ pos 65535 ∷
    pos 1 ∷ pos 2147483647 ∷ pos 2147483647 ∷ pos 2147483646 ∷ pos 0 ∷ pos 4294967295 ∷
    pos 4294967295 ∷ pos 4294967295 ∷ pos 4294967295 ∷ pos 4294967295 ∷ pos 4294967295 ∷ [])
    ∷ with_each (pos 4294967296) (pos 0 ∷ pos 0 ∷ pos 0 ∷ pos 0 ∷ pos 4 ∷ pos 4 ∷ pos 0 ∷ pos 2 ∷
    pos 0 ∷ pos 0 ∷ pos 2147483647 ∷ pos 1 ∷ pos 0 ∷ pos 4294967296 ∷ pos 4294967296 ∷
    pos 4294967296 ∷ pos 4294967296 ∷ pos 4294967296 ∷ [])
    ∷ with_each (minus 4294967297) (pos 0 ∷ pos 0 ∷ minus 1 ∷ minus 1 ∷ minus 5 ∷ minus 5 ∷
    minus 1 ∷ minus 3 ∷ minus 1 ∷ minus 1 ∷ minus 2147483648 ∷ minus 2 ∷ minus 1 ∷ pos 0 ∷
    minus 4294967297 ∷ minus 4294967297 ∷ minus 4294967297 ∷ minus 4294967297 ∷ [])
    ∷ with_each (minus 9223372036854775808) (pos 0 ∷ pos 0 ∷ pos 0 ∷ pos 0 ∷ minus 1 ∷ minus 1 ∷
    pos 0 ∷ minus 2 ∷ pos 0 ∷ pos 0 ∷ minus 2 ∷ minus 2147483648 ∷ pos 0 ∷ minus 2147483649 ∷
    pos 0 ∷ minus 1 ∷ minus 2 ∷ minus 1 ∷ [])
    ∷ with_each (minus 9223372036854775807) (pos 0 ∷ pos 0 ∷ minus 1 ∷ minus 1 ∷ pos 0 ∷ pos 0 ∷
    minus 65535 ∷ minus 1 ∷ minus 2147483647 ∷ minus 2147483647 ∷ minus 1 ∷ minus 2147483647 ∷
    minus 4294967295 ∷ minus 2147483648 ∷ minus 9223372036854775807 ∷ pos 0 ∷ minus 1 ∷ pos 0 ∷ [])
    ∷ with_each (pos 9223372036854775806) (pos 0 ∷ pos 0 ∷ pos 0 ∷ pos 0 ∷ pos 6 ∷ pos 6 ∷
    pos 65534 ∷ pos 0 ∷ pos 2147483646 ∷ pos 2147483646 ∷ pos 0 ∷ pos 2147483646 ∷ pos 4294967294 ∷
    pos 2147483647 ∷ pos 9223372036854775806 ∷ pos 9223372036854775806 ∷ pos 0 ∷
    pos 9223372036854775806 ∷ [])
    ∷ with_each (pos 9223372036854775807) (pos 0 ∷ pos 0 ∷ pos 1 ∷ pos 1 ∷ pos 0 ∷ pos 0 ∷
    pos 65535 ∷ pos 1 ∷ pos 2147483647 ∷ pos 2147483647 ∷ pos 1 ∷ pos 2147483647 ∷ pos 4294967295 ∷
    pos 2147483648 ∷ pos 9223372036854775807 ∷ pos 0 ∷ pos 1 ∷ pos 0 ∷ [])
    ∷ []

abbrev pub long_negations : List (ℤ × ℤ)
long_negations =
    (pos 0, pos 0) ∷ (pos 1, minus 1) ∷ (minus 1, pos 1) ∷ (pos 2, minus 2) ∷ (minus 2, pos 2) ∷
    (pos 7, minus 7) ∷ (minus 7, pos 7) ∷ (pos 65536, minus 65536) ∷
    (pos 2147483647, minus 2147483647) ∷ (pos 2147483648, minus 2147483648) ∷
    (minus 2147483648, pos 2147483648) ∷ (minus 2147483649, pos 2147483649) ∷
    (pos 4294967295, minus 4294967295) ∷ (pos 4294967296, minus 4294967296) ∷
    (minus 4294967297, pos 4294967297) ∷ (minus 9223372036854775808, minus 9223372036854775808) ∷
    (minus 9223372036854775807, pos 9223372036854775807) ∷
    (pos 9223372036854775806, minus 9223372036854775806) ∷
    (pos 9223372036854775807, minus 9223372036854775807) ∷ []
