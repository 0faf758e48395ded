-- Results of operations on the bits of longs, and of their order, as a JVM printed them (JVMS 6.5,
-- land to lxor, lshl to lushr, l2i and lcmp).
-- `checks/machine_rows` compares them with a JVM's, and with `--print` prints them.
use Rattle.std.specs.Prelude.{ℤ, pos, List, [], ◌∷◌}
use Rattle.je_machine.specs.Rows.{minus, with_each}

abbrev pub long_ands : List (ℤ × List ℤ)
long_ands =
    with_each (pos 0) (pos 0 ∷ pos 0 ∷ pos 0 ∷ pos 0 ∷ pos 0 ∷ pos 0 ∷ pos 0 ∷ pos 0 ∷ pos 0 ∷
    pos 0 ∷ pos 0 ∷ pos 0 ∷ pos 0 ∷ pos 0 ∷ pos 0 ∷ pos 0 ∷ pos 0 ∷ pos 0 ∷ pos 0 ∷ [])
    ∷ with_each (pos 1) (pos 0 ∷ pos 1 ∷ pos 1 ∷ pos 0 ∷ pos 0 ∷ pos 1 ∷ pos 1 ∷ pos 0 ∷ pos 1 ∷
    pos 0 ∷ pos 0 ∷ pos 1 ∷ pos 1 ∷ pos 0 ∷ pos 1 ∷ pos 0 ∷ pos 1 ∷ pos 0 ∷ pos 1 ∷ [])
    ∷ with_each (minus 1) (pos 0 ∷ pos 1 ∷ minus 1 ∷ pos 2 ∷ minus 2 ∷ pos 7 ∷ minus 7 ∷ pos 65536 ∷
    pos 2147483647 ∷ pos 2147483648 ∷ minus 2147483648 ∷ minus 2147483649 ∷ pos 4294967295 ∷
    pos 4294967296 ∷ minus 4294967297 ∷ minus 9223372036854775808 ∷ minus 9223372036854775807 ∷
    pos 9223372036854775806 ∷ pos 9223372036854775807 ∷ [])
    ∷ with_each (pos 2) (pos 0 ∷ pos 0 ∷ pos 2 ∷ pos 2 ∷ pos 2 ∷ pos 2 ∷ pos 0 ∷ pos 0 ∷ pos 2 ∷
    pos 0 ∷ pos 0 ∷ pos 2 ∷ pos 2 ∷ pos 0 ∷ pos 2 ∷ pos 0 ∷ pos 0 ∷ pos 2 ∷ pos 2 ∷ [])
    ∷ with_each (minus 2) (pos 0 ∷ pos 0 ∷ minus 2 ∷ pos 2 ∷ minus 2 ∷ pos 6 ∷ minus 8 ∷ pos 65536 ∷
    pos 2147483646 ∷ pos 2147483648 ∷ minus 2147483648 ∷ minus 2147483650 ∷ pos 4294967294 ∷
    pos 4294967296 ∷ minus 4294967298 ∷ minus 9223372036854775808 ∷ minus 9223372036854775808 ∷
    pos 9223372036854775806 ∷ pos 9223372036854775806 ∷ [])
    ∷ with_each (pos 7) (pos 0 ∷ pos 1 ∷ pos 7 ∷ pos 2 ∷ pos 6 ∷ pos 7 ∷ pos 1 ∷ pos 0 ∷ pos 7 ∷
    pos 0 ∷ pos 0 ∷ pos 7 ∷ pos 7 ∷ pos 0 ∷ pos 7 ∷ pos 0 ∷ pos 1 ∷ pos 6 ∷ pos 7 ∷ [])
    ∷ with_each (minus 7) (pos 0 ∷ pos 1 ∷ minus 7 ∷ pos 0 ∷ minus 8 ∷ pos 1 ∷ minus 7 ∷ pos 65536 ∷
    pos 2147483641 ∷ pos 2147483648 ∷ minus 2147483648 ∷ minus 2147483655 ∷ pos 4294967289 ∷
    pos 4294967296 ∷ minus 4294967303 ∷ minus 9223372036854775808 ∷ minus 9223372036854775807 ∷
    pos 9223372036854775800 ∷ pos 9223372036854775801 ∷ [])
    ∷ with_each (pos 65536) (pos 0 ∷ pos 0 ∷ pos 65536 ∷ pos 0 ∷ pos 65536 ∷ pos 0 ∷ pos 65536 ∷
    pos 65536 ∷ pos 65536 ∷ pos 0 ∷ pos 0 ∷ pos 65536 ∷ pos 65536 ∷ pos 0 ∷ pos 65536 ∷ pos 0 ∷
    pos 0 ∷ pos 65536 ∷ pos 65536 ∷ [])
    ∷ with_each (pos 2147483647) (pos 0 ∷ pos 1 ∷ pos 2147483647 ∷ pos 2 ∷ pos 2147483646 ∷ pos 7 ∷
    pos 2147483641 ∷ pos 65536 ∷ pos 2147483647 ∷ pos 0 ∷ pos 0 ∷ pos 2147483647 ∷ pos 2147483647 ∷
    pos 0 ∷ pos 2147483647 ∷ pos 0 ∷ pos 1 ∷ pos 2147483646 ∷ pos 2147483647 ∷ [])
    ∷ with_each (pos 2147483648) (pos 0 ∷ pos 0 ∷ pos 2147483648 ∷ pos 0 ∷ pos 2147483648 ∷ pos 0 ∷
    pos 2147483648 ∷ pos 0 ∷ pos 0 ∷ pos 2147483648 ∷ pos 2147483648 ∷ pos 0 ∷ pos 2147483648 ∷
    pos 0 ∷ pos 2147483648 ∷ pos 0 ∷ pos 0 ∷ pos 2147483648 ∷ pos 2147483648 ∷ [])
    ∷ with_each (minus 2147483648) (pos 0 ∷ pos 0 ∷ minus 2147483648 ∷ pos 0 ∷ minus 2147483648 ∷
    pos 0 ∷ minus 2147483648 ∷ pos 0 ∷ pos 0 ∷ pos 2147483648 ∷ minus 2147483648 ∷
    minus 4294967296 ∷ pos 2147483648 ∷ pos 4294967296 ∷ minus 6442450944 ∷
    minus 9223372036854775808 ∷ minus 9223372036854775808 ∷ pos 9223372034707292160 ∷
    pos 9223372034707292160 ∷ [])
    ∷ with_each (minus 2147483649) (pos 0 ∷ pos 1 ∷ minus 2147483649 ∷ pos 2 ∷ minus 2147483650 ∷
    pos 7 ∷ minus 2147483655 ∷ pos 65536 ∷ pos 2147483647 ∷ pos 0 ∷ minus 4294967296 ∷
    minus 2147483649 ∷ pos 2147483647 ∷ pos 4294967296 ∷ minus 6442450945 ∷
    minus 9223372036854775808 ∷ minus 9223372036854775807 ∷ pos 9223372034707292158 ∷
    pos 9223372034707292159 ∷ [])
    ∷ with_each (pos 4294967295) (pos 0 ∷ pos 1 ∷ pos 4294967295 ∷ pos 2 ∷ pos 4294967294 ∷ pos 7 ∷
    pos 4294967289 ∷ pos 65536 ∷ pos 2147483647 ∷ pos 2147483648 ∷ pos 2147483648 ∷ pos 2147483647 ∷
    pos 4294967295 ∷ pos 0 ∷ pos 4294967295 ∷ pos 0 ∷ pos 1 ∷ pos 4294967294 ∷ pos 4294967295 ∷ [])
    ∷ with_each (pos 4294967296) (pos 0 ∷ pos 0 ∷ pos 4294967296 ∷ pos 0 ∷ pos 4294967296 ∷ pos 0 ∷
    pos 4294967296 ∷ pos 0 ∷ pos 0 ∷ pos 0 ∷ pos 4294967296 ∷ pos 4294967296 ∷ pos 0 ∷
    pos 4294967296 ∷ pos 0 ∷ pos 0 ∷ pos 0 ∷ pos 4294967296 ∷ pos 4294967296 ∷ [])
    ∷ with_each (minus 4294967297) (pos 0 ∷ pos 1 ∷ minus 4294967297 ∷ pos 2 ∷ minus 4294967298 ∷
    pos 7 ∷ minus 4294967303 ∷ pos 65536 ∷ pos 2147483647 ∷ pos 2147483648 ∷ minus 6442450944 ∷
    minus 6442450945 ∷ pos 4294967295 ∷ pos 0 ∷ minus 4294967297 ∷ minus 9223372036854775808 ∷
    minus 9223372036854775807 ∷ pos 9223372032559808510 ∷ pos 9223372032559808511 ∷ [])
    ∷ with_each (minus 9223372036854775808) (pos 0 ∷ pos 0 ∷ minus 9223372036854775808 ∷ pos 0 ∷
    minus 9223372036854775808 ∷ pos 0 ∷ minus 9223372036854775808 ∷ pos 0 ∷ pos 0 ∷ pos 0 ∷
    minus 9223372036854775808 ∷ minus 9223372036854775808 ∷ pos 0 ∷ pos 0 ∷
    minus 9223372036854775808 ∷ minus 9223372036854775808 ∷ minus 9223372036854775808 ∷ pos 0 ∷
    pos 0 ∷ [])
    ∷ with_each (minus 9223372036854775807) (pos 0 ∷ pos 1 ∷ minus 9223372036854775807 ∷ pos 0 ∷
    minus 9223372036854775808 ∷ pos 1 ∷ minus 9223372036854775807 ∷ pos 0 ∷ pos 1 ∷ pos 0 ∷
    minus 9223372036854775808 ∷ minus 9223372036854775807 ∷ pos 1 ∷ pos 0 ∷
    minus 9223372036854775807 ∷ minus 9223372036854775808 ∷ minus 9223372036854775807 ∷ pos 0 ∷
    pos 1 ∷ [])
    ∷ with_each (pos 9223372036854775806) (pos 0 ∷ pos 0 ∷ pos 9223372036854775806 ∷ pos 2 ∷
    pos 9223372036854775806 ∷ pos 6 ∷ pos 9223372036854775800 ∷ pos 65536 ∷ pos 2147483646 ∷
    pos 2147483648 ∷ pos 9223372034707292160 ∷ pos 9223372034707292158 ∷ pos 4294967294 ∷
    pos 4294967296 ∷ pos 9223372032559808510 ∷ pos 0 ∷ pos 0 ∷ pos 9223372036854775806 ∷
    pos 9223372036854775806 ∷ [])
    ∷ with_each (pos 9223372036854775807) (pos 0 ∷ pos 1 ∷ pos 9223372036854775807 ∷ pos 2 ∷
    pos 9223372036854775806 ∷ pos 7 ∷ pos 9223372036854775801 ∷ pos 65536 ∷ pos 2147483647 ∷
    pos 2147483648 ∷ pos 9223372034707292160 ∷ pos 9223372034707292159 ∷ pos 4294967295 ∷
    pos 4294967296 ∷ pos 9223372032559808511 ∷ pos 0 ∷ pos 1 ∷ pos 9223372036854775806 ∷
    pos 9223372036854775807 ∷ [])
    ∷ []

abbrev pub long_ors : List (ℤ × List ℤ)
long_ors =
    with_each (pos 0) (pos 0 ∷ pos 1 ∷ minus 1 ∷ pos 2 ∷ minus 2 ∷ pos 7 ∷ minus 7 ∷ pos 65536 ∷
    pos 2147483647 ∷ pos 2147483648 ∷ minus 2147483648 ∷ minus 2147483649 ∷ pos 4294967295 ∷
    pos 4294967296 ∷ minus 4294967297 ∷ minus 9223372036854775808 ∷ minus 9223372036854775807 ∷
    pos 9223372036854775806 ∷ pos 9223372036854775807 ∷ [])
    ∷ with_each (pos 1) (pos 1 ∷ pos 1 ∷ minus 1 ∷ pos 3 ∷ minus 1 ∷ pos 7 ∷ minus 7 ∷ pos 65537 ∷
    pos 2147483647 ∷ pos 2147483649 ∷ minus 2147483647 ∷ minus 2147483649 ∷ pos 4294967295 ∷
    pos 4294967297 ∷ minus 4294967297 ∷ minus 9223372036854775807 ∷ minus 9223372036854775807 ∷
    pos 9223372036854775807 ∷ pos 9223372036854775807 ∷ [])
    ∷ with_each (minus 1) (minus 1 ∷ minus 1 ∷ minus 1 ∷ minus 1 ∷ minus 1 ∷ minus 1 ∷ minus 1 ∷
    minus 1 ∷ minus 1 ∷ minus 1 ∷ minus 1 ∷ minus 1 ∷ minus 1 ∷ minus 1 ∷ minus 1 ∷ minus 1 ∷
    minus 1 ∷ minus 1 ∷ minus 1 ∷ [])
    ∷ with_each (pos 2) (pos 2 ∷ pos 3 ∷ minus 1 ∷ pos 2 ∷ minus 2 ∷ pos 7 ∷ minus 5 ∷ pos 65538 ∷
    pos 2147483647 ∷ pos 2147483650 ∷ minus 2147483646 ∷ minus 2147483649 ∷ pos 4294967295 ∷
    pos 4294967298 ∷ minus 4294967297 ∷ minus 9223372036854775806 ∷ minus 9223372036854775805 ∷
    pos 9223372036854775806 ∷ pos 9223372036854775807 ∷ [])
    ∷ with_each (minus 2) (minus 2 ∷ minus 1 ∷ minus 1 ∷ minus 2 ∷ minus 2 ∷ minus 1 ∷ minus 1 ∷
    minus 2 ∷ minus 1 ∷ minus 2 ∷ minus 2 ∷ minus 1 ∷ minus 1 ∷ minus 2 ∷ minus 1 ∷ minus 2 ∷
    minus 1 ∷ minus 2 ∷ minus 1 ∷ [])
    ∷ with_each (pos 7) (pos 7 ∷ pos 7 ∷ minus 1 ∷ pos 7 ∷ minus 1 ∷ pos 7 ∷ minus 1 ∷ pos 65543 ∷
    pos 2147483647 ∷ pos 2147483655 ∷ minus 2147483641 ∷ minus 2147483649 ∷ pos 4294967295 ∷
    pos 4294967303 ∷ minus 4294967297 ∷ minus 9223372036854775801 ∷ minus 9223372036854775801 ∷
    pos 9223372036854775807 ∷ pos 9223372036854775807 ∷ [])
    ∷ with_each (minus 7) (minus 7 ∷ minus 7 ∷ minus 1 ∷ minus 5 ∷ minus 1 ∷ minus 1 ∷ minus 7 ∷
    minus 7 ∷ minus 1 ∷ minus 7 ∷ minus 7 ∷ minus 1 ∷ minus 1 ∷ minus 7 ∷ minus 1 ∷ minus 7 ∷
    minus 7 ∷ minus 1 ∷ minus 1 ∷ [])
    ∷ with_each (pos 65536) (pos 65536 ∷ pos 65537 ∷ minus 1 ∷ pos 65538 ∷ minus 2 ∷ pos 65543 ∷
    minus 7 ∷ pos 65536 ∷ pos 2147483647 ∷ pos 2147549184 ∷ minus 2147418112 ∷ minus 2147483649 ∷
    pos 4294967295 ∷ pos 4295032832 ∷ minus 4294967297 ∷ minus 9223372036854710272 ∷
    minus 9223372036854710271 ∷ pos 9223372036854775806 ∷ pos 9223372036854775807 ∷ [])
    ∷ with_each (pos 2147483647) (pos 2147483647 ∷ pos 2147483647 ∷ minus 1 ∷ pos 2147483647 ∷
    minus 1 ∷ pos 2147483647 ∷ minus 1 ∷ pos 2147483647 ∷ pos 2147483647 ∷ pos 4294967295 ∷
    minus 1 ∷ minus 2147483649 ∷ pos 4294967295 ∷ pos 6442450943 ∷ minus 4294967297 ∷
    minus 9223372034707292161 ∷ minus 9223372034707292161 ∷ pos 9223372036854775807 ∷
    pos 9223372036854775807 ∷ [])
    ∷ with_each (pos 2147483648) (pos 2147483648 ∷ pos 2147483649 ∷ minus 1 ∷ pos 2147483650 ∷
    minus 2 ∷ pos 2147483655 ∷ minus 7 ∷ pos 2147549184 ∷ pos 4294967295 ∷ pos 2147483648 ∷
    minus 2147483648 ∷ minus 1 ∷ pos 4294967295 ∷ pos 6442450944 ∷ minus 4294967297 ∷
    minus 9223372034707292160 ∷ minus 9223372034707292159 ∷ pos 9223372036854775806 ∷
    pos 9223372036854775807 ∷ [])
    ∷ with_each (minus 2147483648) (minus 2147483648 ∷ minus 2147483647 ∷ minus 1 ∷
    minus 2147483646 ∷ minus 2 ∷ minus 2147483641 ∷ minus 7 ∷ minus 2147418112 ∷ minus 1 ∷
    minus 2147483648 ∷ minus 2147483648 ∷ minus 1 ∷ minus 1 ∷ minus 2147483648 ∷ minus 1 ∷
    minus 2147483648 ∷ minus 2147483647 ∷ minus 2 ∷ minus 1 ∷ [])
    ∷ with_each (minus 2147483649) (minus 2147483649 ∷ minus 2147483649 ∷ minus 1 ∷
    minus 2147483649 ∷ minus 1 ∷ minus 2147483649 ∷ minus 1 ∷ minus 2147483649 ∷ minus 2147483649 ∷
    minus 1 ∷ minus 1 ∷ minus 2147483649 ∷ minus 1 ∷ minus 2147483649 ∷ minus 1 ∷ minus 2147483649 ∷
    minus 2147483649 ∷ minus 1 ∷ minus 1 ∷ [])
    ∷ with_each (pos 4294967295) (pos 4294967295 ∷ pos 4294967295 ∷ minus 1 ∷ pos 4294967295 ∷
    minus 1 ∷ pos 4294967295 ∷ minus 1 ∷ pos 4294967295 ∷ pos 4294967295 ∷ pos 4294967295 ∷
    minus 1 ∷ minus 1 ∷ pos 4294967295 ∷ pos 8589934591 ∷ minus 4294967297 ∷
    minus 9223372032559808513 ∷ minus 9223372032559808513 ∷ pos 9223372036854775807 ∷
    pos 9223372036854775807 ∷ [])
    ∷ with_each (pos 4294967296) (pos 4294967296 ∷ pos 4294967297 ∷ minus 1 ∷ pos 4294967298 ∷
    minus 2 ∷ pos 4294967303 ∷ minus 7 ∷ pos 4295032832 ∷ pos 6442450943 ∷ pos 6442450944 ∷
    minus 2147483648 ∷ minus 2147483649 ∷ pos 8589934591 ∷ pos 4294967296 ∷ minus 1 ∷
    minus 9223372032559808512 ∷ minus 9223372032559808511 ∷ pos 9223372036854775806 ∷
    pos 9223372036854775807 ∷ [])
    ∷ with_each (minus 4294967297) (minus 4294967297 ∷ minus 4294967297 ∷ minus 1 ∷
    minus 4294967297 ∷ minus 1 ∷ minus 4294967297 ∷ minus 1 ∷ minus 4294967297 ∷ minus 4294967297 ∷
    minus 4294967297 ∷ minus 1 ∷ minus 1 ∷ minus 4294967297 ∷ minus 1 ∷ minus 4294967297 ∷
    minus 4294967297 ∷ minus 4294967297 ∷ minus 1 ∷ minus 1 ∷ [])
    ∷ with_each (minus 9223372036854775808) (minus 9223372036854775808 ∷ minus 9223372036854775807 ∷
    minus 1 ∷ minus 9223372036854775806 ∷ minus 2 ∷ minus 9223372036854775801 ∷ minus 7 ∷
    minus 9223372036854710272 ∷ minus 9223372034707292161 ∷ minus 9223372034707292160 ∷
    minus 2147483648 ∷ minus 2147483649 ∷ minus 9223372032559808513 ∷ minus 9223372032559808512 ∷
    minus 4294967297 ∷ minus 9223372036854775808 ∷ minus 9223372036854775807 ∷ minus 2 ∷ minus 1 ∷
    [])
    ∷ with_each (minus 9223372036854775807) (minus 9223372036854775807 ∷ minus 9223372036854775807 ∷
    minus 1 ∷ minus 9223372036854775805 ∷ minus 1 ∷ minus 9223372036854775801 ∷ minus 7 ∷
    minus 9223372036854710271 ∷ minus 9223372034707292161 ∷ minus 9223372034707292159 ∷
    minus 2147483647 ∷ minus 2147483649 ∷ minus 9223372032559808513 ∷ minus 9223372032559808511 ∷
    minus 4294967297 ∷ minus 9223372036854775807 ∷ minus 9223372036854775807 ∷ minus 1 ∷ minus 1 ∷
    [])
    ∷ with_each (pos 9223372036854775806) (pos 9223372036854775806 ∷ pos 9223372036854775807 ∷
    minus 1 ∷ pos 9223372036854775806 ∷ minus 2 ∷ pos 9223372036854775807 ∷ minus 1 ∷
    pos 9223372036854775806 ∷ pos 9223372036854775807 ∷ pos 9223372036854775806 ∷ minus 2 ∷
    minus 1 ∷ pos 9223372036854775807 ∷ pos 9223372036854775806 ∷ minus 1 ∷ minus 2 ∷ minus 1 ∷
    pos 9223372036854775806 ∷ pos 9223372036854775807 ∷ [])
    ∷ with_each (pos 9223372036854775807) (pos 9223372036854775807 ∷ pos 9223372036854775807 ∷
    minus 1 ∷ pos 9223372036854775807 ∷ minus 1 ∷ pos 9223372036854775807 ∷ minus 1 ∷
    pos 9223372036854775807 ∷ pos 9223372036854775807 ∷ pos 9223372036854775807 ∷ minus 1 ∷
    minus 1 ∷ pos 9223372036854775807 ∷ pos 9223372036854775807 ∷ minus 1 ∷ minus 1 ∷ minus 1 ∷
    pos 9223372036854775807 ∷ pos 9223372036854775807 ∷ [])
    ∷ []

abbrev pub long_xors : List (ℤ × List ℤ)
long_xors =
    with_each (pos 0) (pos 0 ∷ pos 1 ∷ minus 1 ∷ pos 2 ∷ minus 2 ∷ pos 7 ∷ minus 7 ∷ pos 65536 ∷
    pos 2147483647 ∷ pos 2147483648 ∷ minus 2147483648 ∷ minus 2147483649 ∷ pos 4294967295 ∷
    pos 4294967296 ∷ minus 4294967297 ∷ minus 9223372036854775808 ∷ minus 9223372036854775807 ∷
    pos 9223372036854775806 ∷ pos 9223372036854775807 ∷ [])
    ∷ with_each (pos 1) (pos 1 ∷ pos 0 ∷ minus 2 ∷ pos 3 ∷ minus 1 ∷ pos 6 ∷ minus 8 ∷ pos 65537 ∷
    pos 2147483646 ∷ pos 2147483649 ∷ minus 2147483647 ∷ minus 2147483650 ∷ pos 4294967294 ∷
    pos 4294967297 ∷ minus 4294967298 ∷ minus 9223372036854775807 ∷ minus 9223372036854775808 ∷
    pos 9223372036854775807 ∷ pos 9223372036854775806 ∷ [])
    ∷ with_each (minus 1) (minus 1 ∷ minus 2 ∷ pos 0 ∷ minus 3 ∷ pos 1 ∷ minus 8 ∷ pos 6 ∷
    minus 65537 ∷ minus 2147483648 ∷ minus 2147483649 ∷ pos 2147483647 ∷ pos 2147483648 ∷
    minus 4294967296 ∷ minus 4294967297 ∷ pos 4294967296 ∷ pos 9223372036854775807 ∷
    pos 9223372036854775806 ∷ minus 9223372036854775807 ∷ minus 9223372036854775808 ∷ [])
    ∷ with_each (pos 2) (pos 2 ∷ pos 3 ∷ minus 3 ∷ pos 0 ∷ minus 4 ∷ pos 5 ∷ minus 5 ∷ pos 65538 ∷
    pos 2147483645 ∷ pos 2147483650 ∷ minus 2147483646 ∷ minus 2147483651 ∷ pos 4294967293 ∷
    pos 4294967298 ∷ minus 4294967299 ∷ minus 9223372036854775806 ∷ minus 9223372036854775805 ∷
    pos 9223372036854775804 ∷ pos 9223372036854775805 ∷ [])
    ∷ with_each (minus 2) (minus 2 ∷ minus 1 ∷ pos 1 ∷ minus 4 ∷ pos 0 ∷ minus 7 ∷ pos 7 ∷
    minus 65538 ∷ minus 2147483647 ∷ minus 2147483650 ∷ pos 2147483646 ∷ pos 2147483649 ∷
    minus 4294967295 ∷ minus 4294967298 ∷ pos 4294967297 ∷ pos 9223372036854775806 ∷
    pos 9223372036854775807 ∷ minus 9223372036854775808 ∷ minus 9223372036854775807 ∷ [])
    ∷ with_each (pos 7) (pos 7 ∷ pos 6 ∷ minus 8 ∷ pos 5 ∷ minus 7 ∷ pos 0 ∷ minus 2 ∷ pos 65543 ∷
    pos 2147483640 ∷ pos 2147483655 ∷ minus 2147483641 ∷ minus 2147483656 ∷ pos 4294967288 ∷
    pos 4294967303 ∷ minus 4294967304 ∷ minus 9223372036854775801 ∷ minus 9223372036854775802 ∷
    pos 9223372036854775801 ∷ pos 9223372036854775800 ∷ [])
    ∷ with_each (minus 7) (minus 7 ∷ minus 8 ∷ pos 6 ∷ minus 5 ∷ pos 7 ∷ minus 2 ∷ pos 0 ∷
    minus 65543 ∷ minus 2147483642 ∷ minus 2147483655 ∷ pos 2147483641 ∷ pos 2147483654 ∷
    minus 4294967290 ∷ minus 4294967303 ∷ pos 4294967302 ∷ pos 9223372036854775801 ∷
    pos 9223372036854775800 ∷ minus 9223372036854775801 ∷ minus 9223372036854775802 ∷ [])
    ∷ with_each (pos 65536) (pos 65536 ∷ pos 65537 ∷ minus 65537 ∷ pos 65538 ∷ minus 65538 ∷
    pos 65543 ∷ minus 65543 ∷ pos 0 ∷ pos 2147418111 ∷ pos 2147549184 ∷ minus 2147418112 ∷
    minus 2147549185 ∷ pos 4294901759 ∷ pos 4295032832 ∷ minus 4295032833 ∷
    minus 9223372036854710272 ∷ minus 9223372036854710271 ∷ pos 9223372036854710270 ∷
    pos 9223372036854710271 ∷ [])
    ∷ with_each (pos 2147483647) (pos 2147483647 ∷ pos 2147483646 ∷ minus 2147483648 ∷
    pos 2147483645 ∷ minus 2147483647 ∷ pos 2147483640 ∷ minus 2147483642 ∷ pos 2147418111 ∷ pos 0 ∷
    pos 4294967295 ∷ minus 1 ∷ minus 4294967296 ∷ pos 2147483648 ∷ pos 6442450943 ∷
    minus 6442450944 ∷ minus 9223372034707292161 ∷ minus 9223372034707292162 ∷
    pos 9223372034707292161 ∷ pos 9223372034707292160 ∷ [])
    ∷ with_each (pos 2147483648) (pos 2147483648 ∷ pos 2147483649 ∷ minus 2147483649 ∷
    pos 2147483650 ∷ minus 2147483650 ∷ pos 2147483655 ∷ minus 2147483655 ∷ pos 2147549184 ∷
    pos 4294967295 ∷ pos 0 ∷ minus 4294967296 ∷ minus 1 ∷ pos 2147483647 ∷ pos 6442450944 ∷
    minus 6442450945 ∷ minus 9223372034707292160 ∷ minus 9223372034707292159 ∷
    pos 9223372034707292158 ∷ pos 9223372034707292159 ∷ [])
    ∷ with_each (minus 2147483648) (minus 2147483648 ∷ minus 2147483647 ∷ pos 2147483647 ∷
    minus 2147483646 ∷ pos 2147483646 ∷ minus 2147483641 ∷ pos 2147483641 ∷ minus 2147418112 ∷
    minus 1 ∷ minus 4294967296 ∷ pos 0 ∷ pos 4294967295 ∷ minus 2147483649 ∷ minus 6442450944 ∷
    pos 6442450943 ∷ pos 9223372034707292160 ∷ pos 9223372034707292161 ∷ minus 9223372034707292162 ∷
    minus 9223372034707292161 ∷ [])
    ∷ with_each (minus 2147483649) (minus 2147483649 ∷ minus 2147483650 ∷ pos 2147483648 ∷
    minus 2147483651 ∷ pos 2147483649 ∷ minus 2147483656 ∷ pos 2147483654 ∷ minus 2147549185 ∷
    minus 4294967296 ∷ minus 1 ∷ pos 4294967295 ∷ pos 0 ∷ minus 2147483648 ∷ minus 6442450945 ∷
    pos 6442450944 ∷ pos 9223372034707292159 ∷ pos 9223372034707292158 ∷ minus 9223372034707292159 ∷
    minus 9223372034707292160 ∷ [])
    ∷ with_each (pos 4294967295) (pos 4294967295 ∷ pos 4294967294 ∷ minus 4294967296 ∷
    pos 4294967293 ∷ minus 4294967295 ∷ pos 4294967288 ∷ minus 4294967290 ∷ pos 4294901759 ∷
    pos 2147483648 ∷ pos 2147483647 ∷ minus 2147483649 ∷ minus 2147483648 ∷ pos 0 ∷ pos 8589934591 ∷
    minus 8589934592 ∷ minus 9223372032559808513 ∷ minus 9223372032559808514 ∷
    pos 9223372032559808513 ∷ pos 9223372032559808512 ∷ [])
    ∷ with_each (pos 4294967296) (pos 4294967296 ∷ pos 4294967297 ∷ minus 4294967297 ∷
    pos 4294967298 ∷ minus 4294967298 ∷ pos 4294967303 ∷ minus 4294967303 ∷ pos 4295032832 ∷
    pos 6442450943 ∷ pos 6442450944 ∷ minus 6442450944 ∷ minus 6442450945 ∷ pos 8589934591 ∷ pos 0 ∷
    minus 1 ∷ minus 9223372032559808512 ∷ minus 9223372032559808511 ∷ pos 9223372032559808510 ∷
    pos 9223372032559808511 ∷ [])
    ∷ with_each (minus 4294967297) (minus 4294967297 ∷ minus 4294967298 ∷ pos 4294967296 ∷
    minus 4294967299 ∷ pos 4294967297 ∷ minus 4294967304 ∷ pos 4294967302 ∷ minus 4295032833 ∷
    minus 6442450944 ∷ minus 6442450945 ∷ pos 6442450943 ∷ pos 6442450944 ∷ minus 8589934592 ∷
    minus 1 ∷ pos 0 ∷ pos 9223372032559808511 ∷ pos 9223372032559808510 ∷
    minus 9223372032559808511 ∷ minus 9223372032559808512 ∷ [])
    ∷ with_each (minus 9223372036854775808) (minus 9223372036854775808 ∷ minus 9223372036854775807 ∷
    pos 9223372036854775807 ∷ minus 9223372036854775806 ∷ pos 9223372036854775806 ∷
    minus 9223372036854775801 ∷ pos 9223372036854775801 ∷ minus 9223372036854710272 ∷
    minus 9223372034707292161 ∷ minus 9223372034707292160 ∷ pos 9223372034707292160 ∷
    pos 9223372034707292159 ∷ minus 9223372032559808513 ∷ minus 9223372032559808512 ∷
    pos 9223372032559808511 ∷ pos 0 ∷ pos 1 ∷ minus 2 ∷ minus 1 ∷ [])
    ∷ with_each (minus 9223372036854775807) (minus 9223372036854775807 ∷ minus 9223372036854775808 ∷
    pos 9223372036854775806 ∷ minus 9223372036854775805 ∷ pos 9223372036854775807 ∷
    minus 9223372036854775802 ∷ pos 9223372036854775800 ∷ minus 9223372036854710271 ∷
    minus 9223372034707292162 ∷ minus 9223372034707292159 ∷ pos 9223372034707292161 ∷
    pos 9223372034707292158 ∷ minus 9223372032559808514 ∷ minus 9223372032559808511 ∷
    pos 9223372032559808510 ∷ pos 1 ∷ pos 0 ∷ minus 1 ∷ minus 2 ∷ [])
    ∷ with_each (pos 9223372036854775806) (pos 9223372036854775806 ∷ pos 9223372036854775807 ∷
    minus 9223372036854775807 ∷ pos 9223372036854775804 ∷ minus 9223372036854775808 ∷
    pos 9223372036854775801 ∷ minus 9223372036854775801 ∷ pos 9223372036854710270 ∷
    pos 9223372034707292161 ∷ pos 9223372034707292158 ∷ minus 9223372034707292162 ∷
    minus 9223372034707292159 ∷ pos 9223372032559808513 ∷ pos 9223372032559808510 ∷
    minus 9223372032559808511 ∷ minus 2 ∷ minus 1 ∷ pos 0 ∷ pos 1 ∷ [])
    ∷ with_each (pos 9223372036854775807) (pos 9223372036854775807 ∷ pos 9223372036854775806 ∷
    minus 9223372036854775808 ∷ pos 9223372036854775805 ∷ minus 9223372036854775807 ∷
    pos 9223372036854775800 ∷ minus 9223372036854775802 ∷ pos 9223372036854710271 ∷
    pos 9223372034707292160 ∷ pos 9223372034707292159 ∷ minus 9223372034707292161 ∷
    minus 9223372034707292160 ∷ pos 9223372032559808512 ∷ pos 9223372032559808511 ∷
    minus 9223372032559808512 ∷ minus 1 ∷ minus 2 ∷ pos 1 ∷ pos 0 ∷ [])
    ∷ []

abbrev pub long_lefts : List (ℤ × List ℤ)
long_lefts =
    with_each (pos 0) (pos 0 ∷ pos 0 ∷ pos 0 ∷ pos 0 ∷ pos 0 ∷ pos 0 ∷ pos 0 ∷ pos 0 ∷ [])
    ∷ with_each (pos 1) (pos 1 ∷ pos 2 ∷ pos 2147483648 ∷ pos 4294967296 ∷ pos 8589934592 ∷
    minus 9223372036854775808 ∷ pos 1 ∷ minus 9223372036854775808 ∷ [])
    ∷ with_each (minus 1) (minus 1 ∷ minus 2 ∷ minus 2147483648 ∷ minus 4294967296 ∷
    minus 8589934592 ∷ minus 9223372036854775808 ∷ minus 1 ∷ minus 9223372036854775808 ∷ [])
    ∷ with_each (pos 2) (pos 2 ∷ pos 4 ∷ pos 4294967296 ∷ pos 8589934592 ∷ pos 17179869184 ∷ pos 0 ∷
    pos 2 ∷ pos 0 ∷ [])
    ∷ with_each (minus 2) (minus 2 ∷ minus 4 ∷ minus 4294967296 ∷ minus 8589934592 ∷
    minus 17179869184 ∷ pos 0 ∷ minus 2 ∷ pos 0 ∷ [])
    ∷ with_each (pos 7) (pos 7 ∷ pos 14 ∷ pos 15032385536 ∷ pos 30064771072 ∷ pos 60129542144 ∷
    minus 9223372036854775808 ∷ pos 7 ∷ minus 9223372036854775808 ∷ [])
    ∷ with_each (minus 7) (minus 7 ∷ minus 14 ∷ minus 15032385536 ∷ minus 30064771072 ∷
    minus 60129542144 ∷ minus 9223372036854775808 ∷ minus 7 ∷ minus 9223372036854775808 ∷ [])
    ∷ with_each (pos 65536) (pos 65536 ∷ pos 131072 ∷ pos 140737488355328 ∷ pos 281474976710656 ∷
    pos 562949953421312 ∷ pos 0 ∷ pos 65536 ∷ pos 0 ∷ [])
    ∷ with_each (pos 2147483647) (pos 2147483647 ∷ pos 4294967294 ∷ pos 4611686016279904256 ∷
    pos 9223372032559808512 ∷ minus 8589934592 ∷ minus 9223372036854775808 ∷ pos 2147483647 ∷
    minus 9223372036854775808 ∷ [])
    ∷ with_each (pos 2147483648) (pos 2147483648 ∷ pos 4294967296 ∷ pos 4611686018427387904 ∷
    minus 9223372036854775808 ∷ pos 0 ∷ pos 0 ∷ pos 2147483648 ∷ pos 0 ∷ [])
    ∷ with_each (minus 2147483648) (minus 2147483648 ∷ minus 4294967296 ∷
    minus 4611686018427387904 ∷ minus 9223372036854775808 ∷ pos 0 ∷ pos 0 ∷ minus 2147483648 ∷
    pos 0 ∷ [])
    ∷ with_each (minus 2147483649) (minus 2147483649 ∷ minus 4294967298 ∷
    minus 4611686020574871552 ∷ pos 9223372032559808512 ∷ minus 8589934592 ∷
    minus 9223372036854775808 ∷ minus 2147483649 ∷ minus 9223372036854775808 ∷ [])
    ∷ with_each (pos 4294967295) (pos 4294967295 ∷ pos 8589934590 ∷ pos 9223372034707292160 ∷
    minus 4294967296 ∷ minus 8589934592 ∷ minus 9223372036854775808 ∷ pos 4294967295 ∷
    minus 9223372036854775808 ∷ [])
    ∷ with_each (pos 4294967296) (pos 4294967296 ∷ pos 8589934592 ∷ minus 9223372036854775808 ∷
    pos 0 ∷ pos 0 ∷ pos 0 ∷ pos 4294967296 ∷ pos 0 ∷ [])
    ∷ with_each (minus 4294967297) (minus 4294967297 ∷ minus 8589934594 ∷ pos 9223372034707292160 ∷
    minus 4294967296 ∷ minus 8589934592 ∷ minus 9223372036854775808 ∷ minus 4294967297 ∷
    minus 9223372036854775808 ∷ [])
    ∷ with_each (minus 9223372036854775808) (minus 9223372036854775808 ∷ pos 0 ∷ pos 0 ∷ pos 0 ∷
    pos 0 ∷ pos 0 ∷ minus 9223372036854775808 ∷ pos 0 ∷ [])
    ∷ with_each (minus 9223372036854775807) (minus 9223372036854775807 ∷ pos 2 ∷ pos 2147483648 ∷
    pos 4294967296 ∷ pos 8589934592 ∷ minus 9223372036854775808 ∷ minus 9223372036854775807 ∷
    minus 9223372036854775808 ∷ [])
    ∷ with_each (pos 9223372036854775806) (pos 9223372036854775806 ∷ minus 4 ∷ minus 4294967296 ∷
    minus 8589934592 ∷ minus 17179869184 ∷ pos 0 ∷ pos 9223372036854775806 ∷ pos 0 ∷ [])
    ∷ with_each (pos 9223372036854775807) (pos 9223372036854775807 ∷ minus 2 ∷ minus 2147483648 ∷
    minus 4294967296 ∷ minus 8589934592 ∷ minus 9223372036854775808 ∷ pos 9223372036854775807 ∷
    minus 9223372036854775808 ∷ [])
    ∷ []

abbrev pub long_rights : List (ℤ × List ℤ)
long_rights =
    with_each (pos 0) (pos 0 ∷ pos 0 ∷ pos 0 ∷ pos 0 ∷ pos 0 ∷ pos 0 ∷ pos 0 ∷ pos 0 ∷ [])
    ∷ with_each (pos 1) (pos 1 ∷ pos 0 ∷ pos 0 ∷ pos 0 ∷ pos 0 ∷ pos 0 ∷ pos 1 ∷ pos 0 ∷ [])
    ∷ with_each (minus 1) (minus 1 ∷ minus 1 ∷ minus 1 ∷ minus 1 ∷ minus 1 ∷ minus 1 ∷ minus 1 ∷
    minus 1 ∷ [])
    ∷ with_each (pos 2) (pos 2 ∷ pos 1 ∷ pos 0 ∷ pos 0 ∷ pos 0 ∷ pos 0 ∷ pos 2 ∷ pos 0 ∷ [])
    ∷ with_each (minus 2) (minus 2 ∷ minus 1 ∷ minus 1 ∷ minus 1 ∷ minus 1 ∷ minus 1 ∷ minus 2 ∷
    minus 1 ∷ [])
    ∷ with_each (pos 7) (pos 7 ∷ pos 3 ∷ pos 0 ∷ pos 0 ∷ pos 0 ∷ pos 0 ∷ pos 7 ∷ pos 0 ∷ [])
    ∷ with_each (minus 7) (minus 7 ∷ minus 4 ∷ minus 1 ∷ minus 1 ∷ minus 1 ∷ minus 1 ∷ minus 7 ∷
    minus 1 ∷ [])
    ∷ with_each (pos 65536) (pos 65536 ∷ pos 32768 ∷ pos 0 ∷ pos 0 ∷ pos 0 ∷ pos 0 ∷ pos 65536 ∷
    pos 0 ∷ [])
    ∷ with_each (pos 2147483647) (pos 2147483647 ∷ pos 1073741823 ∷ pos 0 ∷ pos 0 ∷ pos 0 ∷ pos 0 ∷
    pos 2147483647 ∷ pos 0 ∷ [])
    ∷ with_each (pos 2147483648) (pos 2147483648 ∷ pos 1073741824 ∷ pos 1 ∷ pos 0 ∷ pos 0 ∷ pos 0 ∷
    pos 2147483648 ∷ pos 0 ∷ [])
    ∷ with_each (minus 2147483648) (minus 2147483648 ∷ minus 1073741824 ∷ minus 1 ∷ minus 1 ∷
    minus 1 ∷ minus 1 ∷ minus 2147483648 ∷ minus 1 ∷ [])
    ∷ with_each (minus 2147483649) (minus 2147483649 ∷ minus 1073741825 ∷ minus 2 ∷ minus 1 ∷
    minus 1 ∷ minus 1 ∷ minus 2147483649 ∷ minus 1 ∷ [])
    ∷ with_each (pos 4294967295) (pos 4294967295 ∷ pos 2147483647 ∷ pos 1 ∷ pos 0 ∷ pos 0 ∷ pos 0 ∷
    pos 4294967295 ∷ pos 0 ∷ [])
    ∷ with_each (pos 4294967296) (pos 4294967296 ∷ pos 2147483648 ∷ pos 2 ∷ pos 1 ∷ pos 0 ∷ pos 0 ∷
    pos 4294967296 ∷ pos 0 ∷ [])
    ∷ with_each (minus 4294967297) (minus 4294967297 ∷ minus 2147483649 ∷ minus 3 ∷ minus 2 ∷
    minus 1 ∷ minus 1 ∷ minus 4294967297 ∷ minus 1 ∷ [])
    ∷ with_each (minus 9223372036854775808) (minus 9223372036854775808 ∷ minus 4611686018427387904 ∷
    minus 4294967296 ∷ minus 2147483648 ∷ minus 1073741824 ∷ minus 1 ∷ minus 9223372036854775808 ∷
    minus 1 ∷ [])
    ∷ with_each (minus 9223372036854775807) (minus 9223372036854775807 ∷ minus 4611686018427387904 ∷
    minus 4294967296 ∷ minus 2147483648 ∷ minus 1073741824 ∷ minus 1 ∷ minus 9223372036854775807 ∷
    minus 1 ∷ [])
    ∷ with_each (pos 9223372036854775806) (pos 9223372036854775806 ∷ pos 4611686018427387903 ∷
    pos 4294967295 ∷ pos 2147483647 ∷ pos 1073741823 ∷ pos 0 ∷ pos 9223372036854775806 ∷ pos 0 ∷ [])
    ∷ with_each (pos 9223372036854775807) (pos 9223372036854775807 ∷ pos 4611686018427387903 ∷
    pos 4294967295 ∷ pos 2147483647 ∷ pos 1073741823 ∷ pos 0 ∷ pos 9223372036854775807 ∷ pos 0 ∷ [])
    ∷ []

abbrev pub long_unsigned_rights : List (ℤ × List ℤ)
long_unsigned_rights =
    with_each (pos 0) (pos 0 ∷ pos 0 ∷ pos 0 ∷ pos 0 ∷ pos 0 ∷ pos 0 ∷ pos 0 ∷ pos 0 ∷ [])
    ∷ with_each (pos 1) (pos 1 ∷ pos 0 ∷ pos 0 ∷ pos 0 ∷ pos 0 ∷ pos 0 ∷ pos 1 ∷ pos 0 ∷ [])
    ∷ with_each (minus 1) (minus 1 ∷ pos 9223372036854775807 ∷ pos 8589934591 ∷ pos 4294967295 ∷
    pos 2147483647 ∷ pos 1 ∷ minus 1 ∷ pos 1 ∷ [])
    ∷ with_each (pos 2) (pos 2 ∷ pos 1 ∷ pos 0 ∷ pos 0 ∷ pos 0 ∷ pos 0 ∷ pos 2 ∷ pos 0 ∷ [])
    ∷ with_each (minus 2) (minus 2 ∷ pos 9223372036854775807 ∷ pos 8589934591 ∷ pos 4294967295 ∷
    pos 2147483647 ∷ pos 1 ∷ minus 2 ∷ pos 1 ∷ [])
    ∷ with_each (pos 7) (pos 7 ∷ pos 3 ∷ pos 0 ∷ pos 0 ∷ pos 0 ∷ pos 0 ∷ pos 7 ∷ pos 0 ∷ [])
    ∷ with_each (minus 7) (minus 7 ∷ pos 9223372036854775804 ∷ pos 8589934591 ∷ pos 4294967295 ∷
    pos 2147483647 ∷ pos 1 ∷ minus 7 ∷ pos 1 ∷ [])
    ∷ with_each (pos 65536) (pos 65536 ∷ pos 32768 ∷ pos 0 ∷ pos 0 ∷ pos 0 ∷ pos 0 ∷ pos 65536 ∷
    pos 0 ∷ [])
    ∷ with_each (pos 2147483647) (pos 2147483647 ∷ pos 1073741823 ∷ pos 0 ∷ pos 0 ∷ pos 0 ∷ pos 0 ∷
    pos 2147483647 ∷ pos 0 ∷ [])
    ∷ with_each (pos 2147483648) (pos 2147483648 ∷ pos 1073741824 ∷ pos 1 ∷ pos 0 ∷ pos 0 ∷ pos 0 ∷
    pos 2147483648 ∷ pos 0 ∷ [])
    ∷ with_each (minus 2147483648) (minus 2147483648 ∷ pos 9223372035781033984 ∷ pos 8589934591 ∷
    pos 4294967295 ∷ pos 2147483647 ∷ pos 1 ∷ minus 2147483648 ∷ pos 1 ∷ [])
    ∷ with_each (minus 2147483649) (minus 2147483649 ∷ pos 9223372035781033983 ∷ pos 8589934590 ∷
    pos 4294967295 ∷ pos 2147483647 ∷ pos 1 ∷ minus 2147483649 ∷ pos 1 ∷ [])
    ∷ with_each (pos 4294967295) (pos 4294967295 ∷ pos 2147483647 ∷ pos 1 ∷ pos 0 ∷ pos 0 ∷ pos 0 ∷
    pos 4294967295 ∷ pos 0 ∷ [])
    ∷ with_each (pos 4294967296) (pos 4294967296 ∷ pos 2147483648 ∷ pos 2 ∷ pos 1 ∷ pos 0 ∷ pos 0 ∷
    pos 4294967296 ∷ pos 0 ∷ [])
    ∷ with_each (minus 4294967297) (minus 4294967297 ∷ pos 9223372034707292159 ∷ pos 8589934589 ∷
    pos 4294967294 ∷ pos 2147483647 ∷ pos 1 ∷ minus 4294967297 ∷ pos 1 ∷ [])
    ∷ with_each (minus 9223372036854775808) (minus 9223372036854775808 ∷ pos 4611686018427387904 ∷
    pos 4294967296 ∷ pos 2147483648 ∷ pos 1073741824 ∷ pos 1 ∷ minus 9223372036854775808 ∷ pos 1 ∷
    [])
    ∷ with_each (minus 9223372036854775807) (minus 9223372036854775807 ∷ pos 4611686018427387904 ∷
    pos 4294967296 ∷ pos 2147483648 ∷ pos 1073741824 ∷ pos 1 ∷ minus 9223372036854775807 ∷ pos 1 ∷
    [])
    ∷ with_each (pos 9223372036854775806) (pos 9223372036854775806 ∷ pos 4611686018427387903 ∷
    pos 4294967295 ∷ pos 2147483647 ∷ pos 1073741823 ∷ pos 0 ∷ pos 9223372036854775806 ∷ pos 0 ∷ [])
    ∷ with_each (pos 9223372036854775807) (pos 9223372036854775807 ∷ pos 4611686018427387903 ∷
    pos 4294967295 ∷ pos 2147483647 ∷ pos 1073741823 ∷ pos 0 ∷ pos 9223372036854775807 ∷ pos 0 ∷ [])
    ∷ []

abbrev pub truncated_longs : List (ℤ × ℤ)
truncated_longs =
    (pos 0, pos 0) ∷ (pos 1, pos 1) ∷ (minus 1, minus 1) ∷ (pos 2, pos 2) ∷ (minus 2, minus 2) ∷
    (pos 7, pos 7) ∷ (minus 7, minus 7) ∷ (pos 65536, pos 65536) ∷
    (pos 2147483647, pos 2147483647) ∷ (pos 2147483648, minus 2147483648) ∷
    (minus 2147483648, minus 2147483648) ∷ (minus 2147483649, pos 2147483647) ∷
    (pos 4294967295, minus 1) ∷ (pos 4294967296, pos 0) ∷ (minus 4294967297, minus 1) ∷
    (minus 9223372036854775808, pos 0) ∷ (minus 9223372036854775807, pos 1) ∷
    (pos 9223372036854775806, minus 2) ∷ (pos 9223372036854775807, minus 1) ∷ []

abbrev pub compared_longs : List (ℤ × List ℤ)
compared_longs =
    with_each (pos 0) (pos 0 ∷ minus 1 ∷ pos 1 ∷ minus 1 ∷ pos 1 ∷ minus 1 ∷ pos 1 ∷ minus 1 ∷
    minus 1 ∷ minus 1 ∷ pos 1 ∷ pos 1 ∷ minus 1 ∷ minus 1 ∷ pos 1 ∷ pos 1 ∷ pos 1 ∷ minus 1 ∷
    minus 1 ∷ [])
    ∷ with_each (pos 1) (pos 1 ∷ pos 0 ∷ pos 1 ∷ minus 1 ∷ pos 1 ∷ minus 1 ∷ pos 1 ∷ minus 1 ∷
    minus 1 ∷ minus 1 ∷ pos 1 ∷ pos 1 ∷ minus 1 ∷ minus 1 ∷ pos 1 ∷ pos 1 ∷ pos 1 ∷ minus 1 ∷
    minus 1 ∷ [])
    ∷ with_each (minus 1) (minus 1 ∷ minus 1 ∷ pos 0 ∷ minus 1 ∷ pos 1 ∷ minus 1 ∷ pos 1 ∷ minus 1 ∷
    minus 1 ∷ minus 1 ∷ pos 1 ∷ pos 1 ∷ minus 1 ∷ minus 1 ∷ pos 1 ∷ pos 1 ∷ pos 1 ∷ minus 1 ∷
    minus 1 ∷ [])
    ∷ with_each (pos 2) (pos 1 ∷ pos 1 ∷ pos 1 ∷ pos 0 ∷ pos 1 ∷ minus 1 ∷ pos 1 ∷ minus 1 ∷
    minus 1 ∷ minus 1 ∷ pos 1 ∷ pos 1 ∷ minus 1 ∷ minus 1 ∷ pos 1 ∷ pos 1 ∷ pos 1 ∷ minus 1 ∷
    minus 1 ∷ [])
    ∷ with_each (minus 2) (minus 1 ∷ minus 1 ∷ minus 1 ∷ minus 1 ∷ pos 0 ∷ minus 1 ∷ pos 1 ∷
    minus 1 ∷ minus 1 ∷ minus 1 ∷ pos 1 ∷ pos 1 ∷ minus 1 ∷ minus 1 ∷ pos 1 ∷ pos 1 ∷ pos 1 ∷
    minus 1 ∷ minus 1 ∷ [])
    ∷ with_each (pos 7) (pos 1 ∷ pos 1 ∷ pos 1 ∷ pos 1 ∷ pos 1 ∷ pos 0 ∷ pos 1 ∷ minus 1 ∷ minus 1 ∷
    minus 1 ∷ pos 1 ∷ pos 1 ∷ minus 1 ∷ minus 1 ∷ pos 1 ∷ pos 1 ∷ pos 1 ∷ minus 1 ∷ minus 1 ∷ [])
    ∷ with_each (minus 7) (minus 1 ∷ minus 1 ∷ minus 1 ∷ minus 1 ∷ minus 1 ∷ minus 1 ∷ pos 0 ∷
    minus 1 ∷ minus 1 ∷ minus 1 ∷ pos 1 ∷ pos 1 ∷ minus 1 ∷ minus 1 ∷ pos 1 ∷ pos 1 ∷ pos 1 ∷
    minus 1 ∷ minus 1 ∷ [])
    ∷ with_each (pos 65536) (pos 1 ∷ pos 1 ∷ pos 1 ∷ pos 1 ∷ pos 1 ∷ pos 1 ∷ pos 1 ∷ pos 0 ∷
    minus 1 ∷ minus 1 ∷ pos 1 ∷ pos 1 ∷ minus 1 ∷ minus 1 ∷ pos 1 ∷ pos 1 ∷ pos 1 ∷ minus 1 ∷
    minus 1 ∷ [])
    ∷ with_each (pos 2147483647) (pos 1 ∷ pos 1 ∷ pos 1 ∷ pos 1 ∷ pos 1 ∷ pos 1 ∷ pos 1 ∷ pos 1 ∷
    pos 0 ∷ minus 1 ∷ pos 1 ∷ pos 1 ∷ minus 1 ∷ minus 1 ∷ pos 1 ∷ pos 1 ∷ pos 1 ∷ minus 1 ∷
    minus 1 ∷ [])
    ∷ with_each (pos 2147483648) (pos 1 ∷ pos 1 ∷ pos 1 ∷ pos 1 ∷ pos 1 ∷ pos 1 ∷ pos 1 ∷ pos 1 ∷
    pos 1 ∷ pos 0 ∷ pos 1 ∷ pos 1 ∷ minus 1 ∷ minus 1 ∷ pos 1 ∷ pos 1 ∷ pos 1 ∷ minus 1 ∷ minus 1 ∷
    [])
    ∷ with_each (minus 2147483648) (minus 1 ∷ minus 1 ∷ minus 1 ∷ minus 1 ∷ minus 1 ∷ minus 1 ∷
    minus 1 ∷ minus 1 ∷ minus 1 ∷ minus 1 ∷ pos 0 ∷ pos 1 ∷ minus 1 ∷ minus 1 ∷ pos 1 ∷ pos 1 ∷
    pos 1 ∷ minus 1 ∷ minus 1 ∷ [])
    ∷ with_each (minus 2147483649) (minus 1 ∷ minus 1 ∷ minus 1 ∷ minus 1 ∷ minus 1 ∷ minus 1 ∷
    minus 1 ∷ minus 1 ∷ minus 1 ∷ minus 1 ∷ minus 1 ∷ pos 0 ∷ minus 1 ∷ minus 1 ∷ pos 1 ∷ pos 1 ∷
    pos 1 ∷ minus 1 ∷ minus 1 ∷ [])
    ∷ with_each (pos 4294967295) (pos 1 ∷ pos 1 ∷ pos 1 ∷ pos 1 ∷ pos 1 ∷ pos 1 ∷ pos 1 ∷ pos 1 ∷
    pos 1 ∷ pos 1 ∷ pos 1 ∷ pos 1 ∷ pos 0 ∷ minus 1 ∷ pos 1 ∷ pos 1 ∷ pos 1 ∷ minus 1 ∷ minus 1 ∷
    [])
    ∷ with_each (pos 4294967296) (pos 1 ∷ pos 1 ∷ pos 1 ∷ pos 1 ∷ pos 1 ∷ pos 1 ∷ pos 1 ∷ pos 1 ∷
    pos 1 ∷ pos 1 ∷ pos 1 ∷ pos 1 ∷ pos 1 ∷ pos 0 ∷ pos 1 ∷ pos 1 ∷ pos 1 ∷ minus 1 ∷ minus 1 ∷ [])
    ∷ with_each (minus 4294967297) (minus 1 ∷ minus 1 ∷ minus 1 ∷ minus 1 ∷ minus 1 ∷ minus 1 ∷
    minus 1 ∷ minus 1 ∷ minus 1 ∷ minus 1 ∷ minus 1 ∷ minus 1 ∷ minus 1 ∷ minus 1 ∷ pos 0 ∷ pos 1 ∷
    pos 1 ∷ minus 1 ∷ minus 1 ∷ [])
    ∷ with_each (minus 9223372036854775808) (minus 1 ∷ minus 1 ∷ minus 1 ∷ minus 1 ∷ minus 1 ∷
    minus 1 ∷ minus 1 ∷ minus 1 ∷ minus 1 ∷ minus 1 ∷ minus 1 ∷ minus 1 ∷ minus 1 ∷ minus 1 ∷
    minus 1 ∷ pos 0 ∷ minus 1 ∷ minus 1 ∷ minus 1 ∷ [])
    ∷ with_each (minus 9223372036854775807) (minus 1 ∷ minus 1 ∷ minus 1 ∷ minus 1 ∷ minus 1 ∷
    minus 1 ∷ minus 1 ∷ minus 1 ∷ minus 1 ∷ minus 1 ∷ minus 1 ∷ minus 1 ∷ minus 1 ∷ minus 1 ∷
    minus 1 ∷ pos 1 ∷ pos 0 ∷ minus 1 ∷ minus 1 ∷ [])
    ∷ with_each (pos 9223372036854775806) (pos 1 ∷ pos 1 ∷ pos 1 ∷ pos 1 ∷ pos 1 ∷ pos 1 ∷ pos 1 ∷
    pos 1 ∷ pos 1 ∷ pos 1 ∷ pos 1 ∷ pos 1 ∷ pos 1 ∷ pos 1 ∷ pos 1 ∷ pos 1 ∷ pos 1 ∷ pos 0 ∷
    minus 1 ∷ [])
    ∷ with_each (pos 9223372036854775807) (pos 1 ∷ pos 1 ∷ pos 1 ∷ pos 1 ∷ pos 1 ∷ pos 1 ∷ pos 1 ∷
    pos 1 ∷ pos 1 ∷ pos 1 ∷ pos 1 ∷ pos 1 ∷ pos 1 ∷ pos 1 ∷ pos 1 ∷ pos 1 ∷ pos 1 ∷ pos 1 ∷ pos 0 ∷
    [])
    ∷ []
