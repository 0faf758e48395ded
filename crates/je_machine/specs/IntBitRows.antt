-- Results of operations on the bits of ints, as a JVM printed them (JVMS 6.5, iand to ixor, ishl
-- to iushr, i2l, i2b, i2c and i2s).
-- `checks/machine_rows` compares them with a JVM's, and with `--print` prints them.
use Rattle.std.specs.Prelude.{ℤ, pos, List, [], ◌∷◌}
use Rattle.je_machine.specs.Rows.{minus, with_each}

abbrev pub int_ands : List (ℤ × List ℤ)
int_ands =
    with_each (pos 0) (pos 0 ∷ pos 0 ∷ pos 0 ∷ pos 0 ∷ pos 0 ∷ pos 0 ∷ pos 0 ∷ pos 0 ∷ pos 0 ∷
    pos 0 ∷ pos 0 ∷ pos 0 ∷ pos 0 ∷ pos 0 ∷ pos 0 ∷ pos 0 ∷ pos 0 ∷ pos 0 ∷ pos 0 ∷ [])
    ∷ with_each (pos 1) (pos 0 ∷ pos 1 ∷ pos 1 ∷ pos 0 ∷ pos 0 ∷ pos 1 ∷ pos 1 ∷ pos 1 ∷ pos 0 ∷
    pos 1 ∷ pos 0 ∷ pos 1 ∷ pos 0 ∷ pos 1 ∷ pos 0 ∷ pos 0 ∷ pos 1 ∷ pos 0 ∷ pos 1 ∷ [])
    ∷ with_each (minus 1) (pos 0 ∷ pos 1 ∷ minus 1 ∷ pos 2 ∷ minus 2 ∷ pos 7 ∷ minus 7 ∷ pos 127 ∷
    pos 128 ∷ pos 255 ∷ pos 256 ∷ pos 32767 ∷ pos 32768 ∷ pos 65535 ∷ pos 65536 ∷ minus 2147483648 ∷
    minus 2147483647 ∷ pos 2147483646 ∷ pos 2147483647 ∷ [])
    ∷ with_each (pos 2) (pos 0 ∷ pos 0 ∷ pos 2 ∷ pos 2 ∷ pos 2 ∷ pos 2 ∷ pos 0 ∷ pos 2 ∷ pos 0 ∷
    pos 2 ∷ pos 0 ∷ pos 2 ∷ pos 0 ∷ pos 2 ∷ pos 0 ∷ pos 0 ∷ pos 0 ∷ pos 2 ∷ pos 2 ∷ [])
    ∷ with_each (minus 2) (pos 0 ∷ pos 0 ∷ minus 2 ∷ pos 2 ∷ minus 2 ∷ pos 6 ∷ minus 8 ∷ pos 126 ∷
    pos 128 ∷ pos 254 ∷ pos 256 ∷ pos 32766 ∷ pos 32768 ∷ pos 65534 ∷ pos 65536 ∷ minus 2147483648 ∷
    minus 2147483648 ∷ pos 2147483646 ∷ pos 2147483646 ∷ [])
    ∷ with_each (pos 7) (pos 0 ∷ pos 1 ∷ pos 7 ∷ pos 2 ∷ pos 6 ∷ pos 7 ∷ pos 1 ∷ pos 7 ∷ pos 0 ∷
    pos 7 ∷ pos 0 ∷ pos 7 ∷ pos 0 ∷ pos 7 ∷ pos 0 ∷ pos 0 ∷ pos 1 ∷ pos 6 ∷ pos 7 ∷ [])
    ∷ with_each (minus 7) (pos 0 ∷ pos 1 ∷ minus 7 ∷ pos 0 ∷ minus 8 ∷ pos 1 ∷ minus 7 ∷ pos 121 ∷
    pos 128 ∷ pos 249 ∷ pos 256 ∷ pos 32761 ∷ pos 32768 ∷ pos 65529 ∷ pos 65536 ∷ minus 2147483648 ∷
    minus 2147483647 ∷ pos 2147483640 ∷ pos 2147483641 ∷ [])
    ∷ with_each (pos 127) (pos 0 ∷ pos 1 ∷ pos 127 ∷ pos 2 ∷ pos 126 ∷ pos 7 ∷ pos 121 ∷ pos 127 ∷
    pos 0 ∷ pos 127 ∷ pos 0 ∷ pos 127 ∷ pos 0 ∷ pos 127 ∷ pos 0 ∷ pos 0 ∷ pos 1 ∷ pos 126 ∷
    pos 127 ∷ [])
    ∷ with_each (pos 128) (pos 0 ∷ pos 0 ∷ pos 128 ∷ pos 0 ∷ pos 128 ∷ pos 0 ∷ pos 128 ∷ pos 0 ∷
    pos 128 ∷ pos 128 ∷ pos 0 ∷ pos 128 ∷ pos 0 ∷ pos 128 ∷ pos 0 ∷ pos 0 ∷ pos 0 ∷ pos 128 ∷
    pos 128 ∷ [])
    ∷ with_each (pos 255) (pos 0 ∷ pos 1 ∷ pos 255 ∷ pos 2 ∷ pos 254 ∷ pos 7 ∷ pos 249 ∷ pos 127 ∷
    pos 128 ∷ pos 255 ∷ pos 0 ∷ pos 255 ∷ pos 0 ∷ pos 255 ∷ pos 0 ∷ pos 0 ∷ pos 1 ∷ pos 254 ∷
    pos 255 ∷ [])
    ∷ with_each (pos 256) (pos 0 ∷ pos 0 ∷ pos 256 ∷ pos 0 ∷ pos 256 ∷ pos 0 ∷ pos 256 ∷ pos 0 ∷
    pos 0 ∷ pos 0 ∷ pos 256 ∷ pos 256 ∷ pos 0 ∷ pos 256 ∷ pos 0 ∷ pos 0 ∷ pos 0 ∷ pos 256 ∷
    pos 256 ∷ [])
    ∷ with_each (pos 32767) (pos 0 ∷ pos 1 ∷ pos 32767 ∷ pos 2 ∷ pos 32766 ∷ pos 7 ∷ pos 32761 ∷
    pos 127 ∷ pos 128 ∷ pos 255 ∷ pos 256 ∷ pos 32767 ∷ pos 0 ∷ pos 32767 ∷ pos 0 ∷ pos 0 ∷ pos 1 ∷
    pos 32766 ∷ pos 32767 ∷ [])
    ∷ with_each (pos 32768) (pos 0 ∷ pos 0 ∷ pos 32768 ∷ pos 0 ∷ pos 32768 ∷ pos 0 ∷ pos 32768 ∷
    pos 0 ∷ pos 0 ∷ pos 0 ∷ pos 0 ∷ pos 0 ∷ pos 32768 ∷ pos 32768 ∷ pos 0 ∷ pos 0 ∷ pos 0 ∷
    pos 32768 ∷ pos 32768 ∷ [])
    ∷ with_each (pos 65535) (pos 0 ∷ pos 1 ∷ pos 65535 ∷ pos 2 ∷ pos 65534 ∷ pos 7 ∷ pos 65529 ∷
    pos 127 ∷ pos 128 ∷ pos 255 ∷ pos 256 ∷ pos 32767 ∷ pos 32768 ∷ pos 65535 ∷ pos 0 ∷ pos 0 ∷
    pos 1 ∷ pos 65534 ∷ pos 65535 ∷ [])
    ∷ with_each (pos 65536) (pos 0 ∷ pos 0 ∷ pos 65536 ∷ pos 0 ∷ pos 65536 ∷ pos 0 ∷ pos 65536 ∷
    pos 0 ∷ pos 0 ∷ pos 0 ∷ pos 0 ∷ pos 0 ∷ pos 0 ∷ pos 0 ∷ pos 65536 ∷ pos 0 ∷ pos 0 ∷ pos 65536 ∷
    pos 65536 ∷ [])
    ∷ with_each (minus 2147483648) (pos 0 ∷ pos 0 ∷ minus 2147483648 ∷ pos 0 ∷ minus 2147483648 ∷
    pos 0 ∷ minus 2147483648 ∷ pos 0 ∷ pos 0 ∷ pos 0 ∷ pos 0 ∷ pos 0 ∷ pos 0 ∷ pos 0 ∷ pos 0 ∷
    minus 2147483648 ∷ minus 2147483648 ∷ pos 0 ∷ pos 0 ∷ [])
    ∷ with_each (minus 2147483647) (pos 0 ∷ pos 1 ∷ minus 2147483647 ∷ pos 0 ∷ minus 2147483648 ∷
    pos 1 ∷ minus 2147483647 ∷ pos 1 ∷ pos 0 ∷ pos 1 ∷ pos 0 ∷ pos 1 ∷ pos 0 ∷ pos 1 ∷ pos 0 ∷
    minus 2147483648 ∷ minus 2147483647 ∷ pos 0 ∷ pos 1 ∷ [])
    ∷ with_each (pos 2147483646) (pos 0 ∷ pos 0 ∷ pos 2147483646 ∷ pos 2 ∷ pos 2147483646 ∷ pos 6 ∷
    pos 2147483640 ∷ pos 126 ∷ pos 128 ∷ pos 254 ∷ pos 256 ∷ pos 32766 ∷ pos 32768 ∷ pos 65534 ∷
    pos 65536 ∷ pos 0 ∷ pos 0 ∷ pos 2147483646 ∷ pos 2147483646 ∷ [])
    ∷ with_each (pos 2147483647) (pos 0 ∷ pos 1 ∷ pos 2147483647 ∷ pos 2 ∷ pos 2147483646 ∷ pos 7 ∷
    pos 2147483641 ∷ pos 127 ∷ pos 128 ∷ pos 255 ∷ pos 256 ∷ pos 32767 ∷ pos 32768 ∷ pos 65535 ∷
    pos 65536 ∷ pos 0 ∷ pos 1 ∷ pos 2147483646 ∷ pos 2147483647 ∷ [])
    ∷ []

abbrev pub int_ors : List (ℤ × List ℤ)
int_ors =
    with_each (pos 0) (pos 0 ∷ pos 1 ∷ minus 1 ∷ pos 2 ∷ minus 2 ∷ pos 7 ∷ minus 7 ∷ pos 127 ∷
    pos 128 ∷ pos 255 ∷ pos 256 ∷ pos 32767 ∷ pos 32768 ∷ pos 65535 ∷ pos 65536 ∷ minus 2147483648 ∷
    minus 2147483647 ∷ pos 2147483646 ∷ pos 2147483647 ∷ [])
    ∷ with_each (pos 1) (pos 1 ∷ pos 1 ∷ minus 1 ∷ pos 3 ∷ minus 1 ∷ pos 7 ∷ minus 7 ∷ pos 127 ∷
    pos 129 ∷ pos 255 ∷ pos 257 ∷ pos 32767 ∷ pos 32769 ∷ pos 65535 ∷ pos 65537 ∷ minus 2147483647 ∷
    minus 2147483647 ∷ pos 2147483647 ∷ pos 2147483647 ∷ [])
    ∷ with_each (minus 1) (minus 1 ∷ minus 1 ∷ minus 1 ∷ minus 1 ∷ minus 1 ∷ minus 1 ∷ minus 1 ∷
    minus 1 ∷ minus 1 ∷ minus 1 ∷ minus 1 ∷ minus 1 ∷ minus 1 ∷ minus 1 ∷ minus 1 ∷ minus 1 ∷
    minus 1 ∷ minus 1 ∷ minus 1 ∷ [])
    ∷ with_each (pos 2) (pos 2 ∷ pos 3 ∷ minus 1 ∷ pos 2 ∷ minus 2 ∷ pos 7 ∷ minus 5 ∷ pos 127 ∷
    pos 130 ∷ pos 255 ∷ pos 258 ∷ pos 32767 ∷ pos 32770 ∷ pos 65535 ∷ pos 65538 ∷ minus 2147483646 ∷
    minus 2147483645 ∷ pos 2147483646 ∷ pos 2147483647 ∷ [])
    ∷ with_each (minus 2) (minus 2 ∷ minus 1 ∷ minus 1 ∷ minus 2 ∷ minus 2 ∷ minus 1 ∷ minus 1 ∷
    minus 1 ∷ minus 2 ∷ minus 1 ∷ minus 2 ∷ minus 1 ∷ minus 2 ∷ minus 1 ∷ minus 2 ∷ minus 2 ∷
    minus 1 ∷ minus 2 ∷ minus 1 ∷ [])
    ∷ with_each (pos 7) (pos 7 ∷ pos 7 ∷ minus 1 ∷ pos 7 ∷ minus 1 ∷ pos 7 ∷ minus 1 ∷ pos 127 ∷
    pos 135 ∷ pos 255 ∷ pos 263 ∷ pos 32767 ∷ pos 32775 ∷ pos 65535 ∷ pos 65543 ∷ minus 2147483641 ∷
    minus 2147483641 ∷ pos 2147483647 ∷ pos 2147483647 ∷ [])
    ∷ with_each (minus 7) (minus 7 ∷ minus 7 ∷ minus 1 ∷ minus 5 ∷ minus 1 ∷ minus 1 ∷ minus 7 ∷
    minus 1 ∷ minus 7 ∷ minus 1 ∷ minus 7 ∷ minus 1 ∷ minus 7 ∷ minus 1 ∷ minus 7 ∷ minus 7 ∷
    minus 7 ∷ minus 1 ∷ minus 1 ∷ [])
    ∷ with_each (pos 127) (pos 127 ∷ pos 127 ∷ minus 1 ∷ pos 127 ∷ minus 1 ∷ pos 127 ∷ minus 1 ∷
    pos 127 ∷ pos 255 ∷ pos 255 ∷ pos 383 ∷ pos 32767 ∷ pos 32895 ∷ pos 65535 ∷ pos 65663 ∷
    minus 2147483521 ∷ minus 2147483521 ∷ pos 2147483647 ∷ pos 2147483647 ∷ [])
    ∷ with_each (pos 128) (pos 128 ∷ pos 129 ∷ minus 1 ∷ pos 130 ∷ minus 2 ∷ pos 135 ∷ minus 7 ∷
    pos 255 ∷ pos 128 ∷ pos 255 ∷ pos 384 ∷ pos 32767 ∷ pos 32896 ∷ pos 65535 ∷ pos 65664 ∷
    minus 2147483520 ∷ minus 2147483519 ∷ pos 2147483646 ∷ pos 2147483647 ∷ [])
    ∷ with_each (pos 255) (pos 255 ∷ pos 255 ∷ minus 1 ∷ pos 255 ∷ minus 1 ∷ pos 255 ∷ minus 1 ∷
    pos 255 ∷ pos 255 ∷ pos 255 ∷ pos 511 ∷ pos 32767 ∷ pos 33023 ∷ pos 65535 ∷ pos 65791 ∷
    minus 2147483393 ∷ minus 2147483393 ∷ pos 2147483647 ∷ pos 2147483647 ∷ [])
    ∷ with_each (pos 256) (pos 256 ∷ pos 257 ∷ minus 1 ∷ pos 258 ∷ minus 2 ∷ pos 263 ∷ minus 7 ∷
    pos 383 ∷ pos 384 ∷ pos 511 ∷ pos 256 ∷ pos 32767 ∷ pos 33024 ∷ pos 65535 ∷ pos 65792 ∷
    minus 2147483392 ∷ minus 2147483391 ∷ pos 2147483646 ∷ pos 2147483647 ∷ [])
    ∷ with_each (pos 32767) (pos 32767 ∷ pos 32767 ∷ minus 1 ∷ pos 32767 ∷ minus 1 ∷ pos 32767 ∷
    minus 1 ∷ pos 32767 ∷ pos 32767 ∷ pos 32767 ∷ pos 32767 ∷ pos 32767 ∷ pos 65535 ∷ pos 65535 ∷
    pos 98303 ∷ minus 2147450881 ∷ minus 2147450881 ∷ pos 2147483647 ∷ pos 2147483647 ∷ [])
    ∷ with_each (pos 32768) (pos 32768 ∷ pos 32769 ∷ minus 1 ∷ pos 32770 ∷ minus 2 ∷ pos 32775 ∷
    minus 7 ∷ pos 32895 ∷ pos 32896 ∷ pos 33023 ∷ pos 33024 ∷ pos 65535 ∷ pos 32768 ∷ pos 65535 ∷
    pos 98304 ∷ minus 2147450880 ∷ minus 2147450879 ∷ pos 2147483646 ∷ pos 2147483647 ∷ [])
    ∷ with_each (pos 65535) (pos 65535 ∷ pos 65535 ∷ minus 1 ∷ pos 65535 ∷ minus 1 ∷ pos 65535 ∷
    minus 1 ∷ pos 65535 ∷ pos 65535 ∷ pos 65535 ∷ pos 65535 ∷ pos 65535 ∷ pos 65535 ∷ pos 65535 ∷
    pos 131071 ∷ minus 2147418113 ∷ minus 2147418113 ∷ pos 2147483647 ∷ pos 2147483647 ∷ [])
    ∷ with_each (pos 65536) (pos 65536 ∷ pos 65537 ∷ minus 1 ∷ pos 65538 ∷ minus 2 ∷ pos 65543 ∷
    minus 7 ∷ pos 65663 ∷ pos 65664 ∷ pos 65791 ∷ pos 65792 ∷ pos 98303 ∷ pos 98304 ∷ pos 131071 ∷
    pos 65536 ∷ minus 2147418112 ∷ minus 2147418111 ∷ pos 2147483646 ∷ pos 2147483647 ∷ [])
    ∷ with_each (minus 2147483648) (minus 2147483648 ∷ minus 2147483647 ∷ minus 1 ∷
    minus 2147483646 ∷ minus 2 ∷ minus 2147483641 ∷ minus 7 ∷ minus 2147483521 ∷ minus 2147483520 ∷
    minus 2147483393 ∷ minus 2147483392 ∷ minus 2147450881 ∷ minus 2147450880 ∷ minus 2147418113 ∷
    minus 2147418112 ∷ minus 2147483648 ∷ minus 2147483647 ∷ minus 2 ∷ minus 1 ∷ [])
    ∷ with_each (minus 2147483647) (minus 2147483647 ∷ minus 2147483647 ∷ minus 1 ∷
    minus 2147483645 ∷ minus 1 ∷ minus 2147483641 ∷ minus 7 ∷ minus 2147483521 ∷ minus 2147483519 ∷
    minus 2147483393 ∷ minus 2147483391 ∷ minus 2147450881 ∷ minus 2147450879 ∷ minus 2147418113 ∷
    minus 2147418111 ∷ minus 2147483647 ∷ minus 2147483647 ∷ minus 1 ∷ minus 1 ∷ [])
    ∷ with_each (pos 2147483646) (pos 2147483646 ∷ pos 2147483647 ∷ minus 1 ∷ pos 2147483646 ∷
    minus 2 ∷ pos 2147483647 ∷ minus 1 ∷ pos 2147483647 ∷ pos 2147483646 ∷ pos 2147483647 ∷
    pos 2147483646 ∷ pos 2147483647 ∷ pos 2147483646 ∷ pos 2147483647 ∷ pos 2147483646 ∷ minus 2 ∷
    minus 1 ∷ pos 2147483646 ∷ pos 2147483647 ∷ [])
    ∷ with_each (pos 2147483647) (pos 2147483647 ∷ pos 2147483647 ∷ minus 1 ∷ pos 2147483647 ∷
    minus 1 ∷ pos 2147483647 ∷ minus 1 ∷ pos 2147483647 ∷ pos 2147483647 ∷ pos 2147483647 ∷
    pos 2147483647 ∷ pos 2147483647 ∷ pos 2147483647 ∷ pos 2147483647 ∷ pos 2147483647 ∷ minus 1 ∷
    minus 1 ∷ pos 2147483647 ∷ pos 2147483647 ∷ [])
    ∷ []

abbrev pub int_xors : List (ℤ × List ℤ)
int_xors =
    with_each (pos 0) (pos 0 ∷ pos 1 ∷ minus 1 ∷ pos 2 ∷ minus 2 ∷ pos 7 ∷ minus 7 ∷ pos 127 ∷
    pos 128 ∷ pos 255 ∷ pos 256 ∷ pos 32767 ∷ pos 32768 ∷ pos 65535 ∷ pos 65536 ∷ minus 2147483648 ∷
    minus 2147483647 ∷ pos 2147483646 ∷ pos 2147483647 ∷ [])
    ∷ with_each (pos 1) (pos 1 ∷ pos 0 ∷ minus 2 ∷ pos 3 ∷ minus 1 ∷ pos 6 ∷ minus 8 ∷ pos 126 ∷
    pos 129 ∷ pos 254 ∷ pos 257 ∷ pos 32766 ∷ pos 32769 ∷ pos 65534 ∷ pos 65537 ∷ minus 2147483647 ∷
    minus 2147483648 ∷ pos 2147483647 ∷ pos 2147483646 ∷ [])
    ∷ with_each (minus 1) (minus 1 ∷ minus 2 ∷ pos 0 ∷ minus 3 ∷ pos 1 ∷ minus 8 ∷ pos 6 ∷
    minus 128 ∷ minus 129 ∷ minus 256 ∷ minus 257 ∷ minus 32768 ∷ minus 32769 ∷ minus 65536 ∷
    minus 65537 ∷ pos 2147483647 ∷ pos 2147483646 ∷ minus 2147483647 ∷ minus 2147483648 ∷ [])
    ∷ with_each (pos 2) (pos 2 ∷ pos 3 ∷ minus 3 ∷ pos 0 ∷ minus 4 ∷ pos 5 ∷ minus 5 ∷ pos 125 ∷
    pos 130 ∷ pos 253 ∷ pos 258 ∷ pos 32765 ∷ pos 32770 ∷ pos 65533 ∷ pos 65538 ∷ minus 2147483646 ∷
    minus 2147483645 ∷ pos 2147483644 ∷ pos 2147483645 ∷ [])
    ∷ with_each (minus 2) (minus 2 ∷ minus 1 ∷ pos 1 ∷ minus 4 ∷ pos 0 ∷ minus 7 ∷ pos 7 ∷
    minus 127 ∷ minus 130 ∷ minus 255 ∷ minus 258 ∷ minus 32767 ∷ minus 32770 ∷ minus 65535 ∷
    minus 65538 ∷ pos 2147483646 ∷ pos 2147483647 ∷ minus 2147483648 ∷ minus 2147483647 ∷ [])
    ∷ with_each (pos 7) (pos 7 ∷ pos 6 ∷ minus 8 ∷ pos 5 ∷ minus 7 ∷ pos 0 ∷ minus 2 ∷ pos 120 ∷
    pos 135 ∷ pos 248 ∷ pos 263 ∷ pos 32760 ∷ pos 32775 ∷ pos 65528 ∷ pos 65543 ∷ minus 2147483641 ∷
    minus 2147483642 ∷ pos 2147483641 ∷ pos 2147483640 ∷ [])
    ∷ with_each (minus 7) (minus 7 ∷ minus 8 ∷ pos 6 ∷ minus 5 ∷ pos 7 ∷ minus 2 ∷ pos 0 ∷
    minus 122 ∷ minus 135 ∷ minus 250 ∷ minus 263 ∷ minus 32762 ∷ minus 32775 ∷ minus 65530 ∷
    minus 65543 ∷ pos 2147483641 ∷ pos 2147483640 ∷ minus 2147483641 ∷ minus 2147483642 ∷ [])
    ∷ with_each (pos 127) (pos 127 ∷ pos 126 ∷ minus 128 ∷ pos 125 ∷ minus 127 ∷ pos 120 ∷
    minus 122 ∷ pos 0 ∷ pos 255 ∷ pos 128 ∷ pos 383 ∷ pos 32640 ∷ pos 32895 ∷ pos 65408 ∷
    pos 65663 ∷ minus 2147483521 ∷ minus 2147483522 ∷ pos 2147483521 ∷ pos 2147483520 ∷ [])
    ∷ with_each (pos 128) (pos 128 ∷ pos 129 ∷ minus 129 ∷ pos 130 ∷ minus 130 ∷ pos 135 ∷
    minus 135 ∷ pos 255 ∷ pos 0 ∷ pos 127 ∷ pos 384 ∷ pos 32639 ∷ pos 32896 ∷ pos 65407 ∷
    pos 65664 ∷ minus 2147483520 ∷ minus 2147483519 ∷ pos 2147483518 ∷ pos 2147483519 ∷ [])
    ∷ with_each (pos 255) (pos 255 ∷ pos 254 ∷ minus 256 ∷ pos 253 ∷ minus 255 ∷ pos 248 ∷
    minus 250 ∷ pos 128 ∷ pos 127 ∷ pos 0 ∷ pos 511 ∷ pos 32512 ∷ pos 33023 ∷ pos 65280 ∷
    pos 65791 ∷ minus 2147483393 ∷ minus 2147483394 ∷ pos 2147483393 ∷ pos 2147483392 ∷ [])
    ∷ with_each (pos 256) (pos 256 ∷ pos 257 ∷ minus 257 ∷ pos 258 ∷ minus 258 ∷ pos 263 ∷
    minus 263 ∷ pos 383 ∷ pos 384 ∷ pos 511 ∷ pos 0 ∷ pos 32511 ∷ pos 33024 ∷ pos 65279 ∷
    pos 65792 ∷ minus 2147483392 ∷ minus 2147483391 ∷ pos 2147483390 ∷ pos 2147483391 ∷ [])
    ∷ with_each (pos 32767) (pos 32767 ∷ pos 32766 ∷ minus 32768 ∷ pos 32765 ∷ minus 32767 ∷
    pos 32760 ∷ minus 32762 ∷ pos 32640 ∷ pos 32639 ∷ pos 32512 ∷ pos 32511 ∷ pos 0 ∷ pos 65535 ∷
    pos 32768 ∷ pos 98303 ∷ minus 2147450881 ∷ minus 2147450882 ∷ pos 2147450881 ∷ pos 2147450880 ∷
    [])
    ∷ with_each (pos 32768) (pos 32768 ∷ pos 32769 ∷ minus 32769 ∷ pos 32770 ∷ minus 32770 ∷
    pos 32775 ∷ minus 32775 ∷ pos 32895 ∷ pos 32896 ∷ pos 33023 ∷ pos 33024 ∷ pos 65535 ∷ pos 0 ∷
    pos 32767 ∷ pos 98304 ∷ minus 2147450880 ∷ minus 2147450879 ∷ pos 2147450878 ∷ pos 2147450879 ∷
    [])
    ∷ with_each (pos 65535) (pos 65535 ∷ pos 65534 ∷ minus 65536 ∷ pos 65533 ∷ minus 65535 ∷
    pos 65528 ∷ minus 65530 ∷ pos 65408 ∷ pos 65407 ∷ pos 65280 ∷ pos 65279 ∷ pos 32768 ∷
    pos 32767 ∷ pos 0 ∷ pos 131071 ∷ minus 2147418113 ∷ minus 2147418114 ∷ pos 2147418113 ∷
    pos 2147418112 ∷ [])
    ∷ with_each (pos 65536) (pos 65536 ∷ pos 65537 ∷ minus 65537 ∷ pos 65538 ∷ minus 65538 ∷
    pos 65543 ∷ minus 65543 ∷ pos 65663 ∷ pos 65664 ∷ pos 65791 ∷ pos 65792 ∷ pos 98303 ∷
    pos 98304 ∷ pos 131071 ∷ pos 0 ∷ minus 2147418112 ∷ minus 2147418111 ∷ pos 2147418110 ∷
    pos 2147418111 ∷ [])
    ∷ with_each (minus 2147483648) (minus 2147483648 ∷ minus 2147483647 ∷ pos 2147483647 ∷
    minus 2147483646 ∷ pos 2147483646 ∷ minus 2147483641 ∷ pos 2147483641 ∷ minus 2147483521 ∷
    minus 2147483520 ∷ minus 2147483393 ∷ minus 2147483392 ∷ minus 2147450881 ∷ minus 2147450880 ∷
    minus 2147418113 ∷ minus 2147418112 ∷ pos 0 ∷ pos 1 ∷ minus 2 ∷ minus 1 ∷ [])
    ∷ with_each (minus 2147483647) (minus 2147483647 ∷ minus 2147483648 ∷ pos 2147483646 ∷
    minus 2147483645 ∷ pos 2147483647 ∷ minus 2147483642 ∷ pos 2147483640 ∷ minus 2147483522 ∷
    minus 2147483519 ∷ minus 2147483394 ∷ minus 2147483391 ∷ minus 2147450882 ∷ minus 2147450879 ∷
    minus 2147418114 ∷ minus 2147418111 ∷ pos 1 ∷ pos 0 ∷ minus 1 ∷ minus 2 ∷ [])
    ∷ with_each (pos 2147483646) (pos 2147483646 ∷ pos 2147483647 ∷ minus 2147483647 ∷
    pos 2147483644 ∷ minus 2147483648 ∷ pos 2147483641 ∷ minus 2147483641 ∷ pos 2147483521 ∷
    pos 2147483518 ∷ pos 2147483393 ∷ pos 2147483390 ∷ pos 2147450881 ∷ pos 2147450878 ∷
    pos 2147418113 ∷ pos 2147418110 ∷ minus 2 ∷ minus 1 ∷ pos 0 ∷ pos 1 ∷ [])
    ∷ with_each (pos 2147483647) (pos 2147483647 ∷ pos 2147483646 ∷ minus 2147483648 ∷
    pos 2147483645 ∷ minus 2147483647 ∷ pos 2147483640 ∷ minus 2147483642 ∷ pos 2147483520 ∷
    pos 2147483519 ∷ pos 2147483392 ∷ pos 2147483391 ∷ pos 2147450880 ∷ pos 2147450879 ∷
    pos 2147418112 ∷ pos 2147418111 ∷ minus 1 ∷ minus 2 ∷ pos 1 ∷ pos 0 ∷ [])
    ∷ []

abbrev pub int_lefts : List (ℤ × List ℤ)
int_lefts =
    with_each (pos 0) (pos 0 ∷ pos 0 ∷ pos 0 ∷ pos 0 ∷ pos 0 ∷ pos 0 ∷ pos 0 ∷ pos 0 ∷ [])
    ∷ with_each (pos 1) (pos 1 ∷ pos 2 ∷ minus 2147483648 ∷ pos 1 ∷ pos 2 ∷ minus 2147483648 ∷
    pos 1 ∷ minus 2147483648 ∷ [])
    ∷ with_each (minus 1) (minus 1 ∷ minus 2 ∷ minus 2147483648 ∷ minus 1 ∷ minus 2 ∷
    minus 2147483648 ∷ minus 1 ∷ minus 2147483648 ∷ [])
    ∷ with_each (pos 2) (pos 2 ∷ pos 4 ∷ pos 0 ∷ pos 2 ∷ pos 4 ∷ pos 0 ∷ pos 2 ∷ pos 0 ∷ [])
    ∷ with_each (minus 2) (minus 2 ∷ minus 4 ∷ pos 0 ∷ minus 2 ∷ minus 4 ∷ pos 0 ∷ minus 2 ∷ pos 0 ∷
    [])
    ∷ with_each (pos 7) (pos 7 ∷ pos 14 ∷ minus 2147483648 ∷ pos 7 ∷ pos 14 ∷ minus 2147483648 ∷
    pos 7 ∷ minus 2147483648 ∷ [])
    ∷ with_each (minus 7) (minus 7 ∷ minus 14 ∷ minus 2147483648 ∷ minus 7 ∷ minus 14 ∷
    minus 2147483648 ∷ minus 7 ∷ minus 2147483648 ∷ [])
    ∷ with_each (pos 127) (pos 127 ∷ pos 254 ∷ minus 2147483648 ∷ pos 127 ∷ pos 254 ∷
    minus 2147483648 ∷ pos 127 ∷ minus 2147483648 ∷ [])
    ∷ with_each (pos 128) (pos 128 ∷ pos 256 ∷ pos 0 ∷ pos 128 ∷ pos 256 ∷ pos 0 ∷ pos 128 ∷ pos 0 ∷
    [])
    ∷ with_each (pos 255) (pos 255 ∷ pos 510 ∷ minus 2147483648 ∷ pos 255 ∷ pos 510 ∷
    minus 2147483648 ∷ pos 255 ∷ minus 2147483648 ∷ [])
    ∷ with_each (pos 256) (pos 256 ∷ pos 512 ∷ pos 0 ∷ pos 256 ∷ pos 512 ∷ pos 0 ∷ pos 256 ∷ pos 0 ∷
    [])
    ∷ with_each (pos 32767) (pos 32767 ∷ pos 65534 ∷ minus 2147483648 ∷ pos 32767 ∷ pos 65534 ∷
    minus 2147483648 ∷ pos 32767 ∷ minus 2147483648 ∷ [])
    ∷ with_each (pos 32768) (pos 32768 ∷ pos 65536 ∷ pos 0 ∷ pos 32768 ∷ pos 65536 ∷ pos 0 ∷
    pos 32768 ∷ pos 0 ∷ [])
    ∷ with_each (pos 65535) (pos 65535 ∷ pos 131070 ∷ minus 2147483648 ∷ pos 65535 ∷ pos 131070 ∷
    minus 2147483648 ∷ pos 65535 ∷ minus 2147483648 ∷ [])
    ∷ with_each (pos 65536) (pos 65536 ∷ pos 131072 ∷ pos 0 ∷ pos 65536 ∷ pos 131072 ∷ pos 0 ∷
    pos 65536 ∷ pos 0 ∷ [])
    ∷ with_each (minus 2147483648) (minus 2147483648 ∷ pos 0 ∷ pos 0 ∷ minus 2147483648 ∷ pos 0 ∷
    pos 0 ∷ minus 2147483648 ∷ pos 0 ∷ [])
    ∷ with_each (minus 2147483647) (minus 2147483647 ∷ pos 2 ∷ minus 2147483648 ∷ minus 2147483647 ∷
    pos 2 ∷ minus 2147483648 ∷ minus 2147483647 ∷ minus 2147483648 ∷ [])
    ∷ with_each (pos 2147483646) (pos 2147483646 ∷ minus 4 ∷ pos 0 ∷ pos 2147483646 ∷ minus 4 ∷
    pos 0 ∷ pos 2147483646 ∷ pos 0 ∷ [])
    ∷ with_each (pos 2147483647) (pos 2147483647 ∷ minus 2 ∷ minus 2147483648 ∷ pos 2147483647 ∷
    minus 2 ∷ minus 2147483648 ∷ pos 2147483647 ∷ minus 2147483648 ∷ [])
    ∷ []

abbrev pub int_rights : List (ℤ × List ℤ)
int_rights =
    with_each (pos 0) (pos 0 ∷ pos 0 ∷ pos 0 ∷ pos 0 ∷ pos 0 ∷ pos 0 ∷ pos 0 ∷ pos 0 ∷ [])
    ∷ with_each (pos 1) (pos 1 ∷ pos 0 ∷ pos 0 ∷ pos 1 ∷ pos 0 ∷ pos 0 ∷ pos 1 ∷ pos 0 ∷ [])
    ∷ with_each (minus 1) (minus 1 ∷ minus 1 ∷ minus 1 ∷ minus 1 ∷ minus 1 ∷ minus 1 ∷ minus 1 ∷
    minus 1 ∷ [])
    ∷ with_each (pos 2) (pos 2 ∷ pos 1 ∷ pos 0 ∷ pos 2 ∷ pos 1 ∷ pos 0 ∷ pos 2 ∷ pos 0 ∷ [])
    ∷ with_each (minus 2) (minus 2 ∷ minus 1 ∷ minus 1 ∷ minus 2 ∷ minus 1 ∷ minus 1 ∷ minus 2 ∷
    minus 1 ∷ [])
    ∷ with_each (pos 7) (pos 7 ∷ pos 3 ∷ pos 0 ∷ pos 7 ∷ pos 3 ∷ pos 0 ∷ pos 7 ∷ pos 0 ∷ [])
    ∷ with_each (minus 7) (minus 7 ∷ minus 4 ∷ minus 1 ∷ minus 7 ∷ minus 4 ∷ minus 1 ∷ minus 7 ∷
    minus 1 ∷ [])
    ∷ with_each (pos 127) (pos 127 ∷ pos 63 ∷ pos 0 ∷ pos 127 ∷ pos 63 ∷ pos 0 ∷ pos 127 ∷ pos 0 ∷
    [])
    ∷ with_each (pos 128) (pos 128 ∷ pos 64 ∷ pos 0 ∷ pos 128 ∷ pos 64 ∷ pos 0 ∷ pos 128 ∷ pos 0 ∷
    [])
    ∷ with_each (pos 255) (pos 255 ∷ pos 127 ∷ pos 0 ∷ pos 255 ∷ pos 127 ∷ pos 0 ∷ pos 255 ∷ pos 0 ∷
    [])
    ∷ with_each (pos 256) (pos 256 ∷ pos 128 ∷ pos 0 ∷ pos 256 ∷ pos 128 ∷ pos 0 ∷ pos 256 ∷ pos 0 ∷
    [])
    ∷ with_each (pos 32767) (pos 32767 ∷ pos 16383 ∷ pos 0 ∷ pos 32767 ∷ pos 16383 ∷ pos 0 ∷
    pos 32767 ∷ pos 0 ∷ [])
    ∷ with_each (pos 32768) (pos 32768 ∷ pos 16384 ∷ pos 0 ∷ pos 32768 ∷ pos 16384 ∷ pos 0 ∷
    pos 32768 ∷ pos 0 ∷ [])
    ∷ with_each (pos 65535) (pos 65535 ∷ pos 32767 ∷ pos 0 ∷ pos 65535 ∷ pos 32767 ∷ pos 0 ∷
    pos 65535 ∷ pos 0 ∷ [])
    ∷ with_each (pos 65536) (pos 65536 ∷ pos 32768 ∷ pos 0 ∷ pos 65536 ∷ pos 32768 ∷ pos 0 ∷
    pos 65536 ∷ pos 0 ∷ [])
    ∷ with_each (minus 2147483648) (minus 2147483648 ∷ minus 1073741824 ∷ minus 1 ∷
    minus 2147483648 ∷ minus 1073741824 ∷ minus 1 ∷ minus 2147483648 ∷ minus 1 ∷ [])
    ∷ with_each (minus 2147483647) (minus 2147483647 ∷ minus 1073741824 ∷ minus 1 ∷
    minus 2147483647 ∷ minus 1073741824 ∷ minus 1 ∷ minus 2147483647 ∷ minus 1 ∷ [])
    ∷ with_each (pos 2147483646) (pos 2147483646 ∷ pos 1073741823 ∷ pos 0 ∷ pos 2147483646 ∷
    pos 1073741823 ∷ pos 0 ∷ pos 2147483646 ∷ pos 0 ∷ [])
    ∷ with_each (pos 2147483647) (pos 2147483647 ∷ pos 1073741823 ∷ pos 0 ∷ pos 2147483647 ∷
    pos 1073741823 ∷ pos 0 ∷ pos 2147483647 ∷ pos 0 ∷ [])
    ∷ []

abbrev pub int_unsigned_rights : List (ℤ × List ℤ)
int_unsigned_rights =
    with_each (pos 0) (pos 0 ∷ pos 0 ∷ pos 0 ∷ pos 0 ∷ pos 0 ∷ pos 0 ∷ pos 0 ∷ pos 0 ∷ [])
    ∷ with_each (pos 1) (pos 1 ∷ pos 0 ∷ pos 0 ∷ pos 1 ∷ pos 0 ∷ pos 0 ∷ pos 1 ∷ pos 0 ∷ [])
    ∷ with_each (minus 1) (minus 1 ∷ pos 2147483647 ∷ pos 1 ∷ minus 1 ∷ pos 2147483647 ∷ pos 1 ∷
    minus 1 ∷ pos 1 ∷ [])
    ∷ with_each (pos 2) (pos 2 ∷ pos 1 ∷ pos 0 ∷ pos 2 ∷ pos 1 ∷ pos 0 ∷ pos 2 ∷ pos 0 ∷ [])
    ∷ with_each (minus 2) (minus 2 ∷ pos 2147483647 ∷ pos 1 ∷ minus 2 ∷ pos 2147483647 ∷ pos 1 ∷
    minus 2 ∷ pos 1 ∷ [])
    ∷ with_each (pos 7) (pos 7 ∷ pos 3 ∷ pos 0 ∷ pos 7 ∷ pos 3 ∷ pos 0 ∷ pos 7 ∷ pos 0 ∷ [])
    ∷ with_each (minus 7) (minus 7 ∷ pos 2147483644 ∷ pos 1 ∷ minus 7 ∷ pos 2147483644 ∷ pos 1 ∷
    minus 7 ∷ pos 1 ∷ [])
    ∷ with_each (pos 127) (pos 127 ∷ pos 63 ∷ pos 0 ∷ pos 127 ∷ pos 63 ∷ pos 0 ∷ pos 127 ∷ pos 0 ∷
    [])
    ∷ with_each (pos 128) (pos 128 ∷ pos 64 ∷ pos 0 ∷ pos 128 ∷ pos 64 ∷ pos 0 ∷ pos 128 ∷ pos 0 ∷
    [])
    ∷ with_each (pos 255) (pos 255 ∷ pos 127 ∷ pos 0 ∷ pos 255 ∷ pos 127 ∷ pos 0 ∷ pos 255 ∷ pos 0 ∷
    [])
    ∷ with_each (pos 256) (pos 256 ∷ pos 128 ∷ pos 0 ∷ pos 256 ∷ pos 128 ∷ pos 0 ∷ pos 256 ∷ pos 0 ∷
    [])
    ∷ with_each (pos 32767) (pos 32767 ∷ pos 16383 ∷ pos 0 ∷ pos 32767 ∷ pos 16383 ∷ pos 0 ∷
    pos 32767 ∷ pos 0 ∷ [])
    ∷ with_each (pos 32768) (pos 32768 ∷ pos 16384 ∷ pos 0 ∷ pos 32768 ∷ pos 16384 ∷ pos 0 ∷
    pos 32768 ∷ pos 0 ∷ [])
    ∷ with_each (pos 65535) (pos 65535 ∷ pos 32767 ∷ pos 0 ∷ pos 65535 ∷ pos 32767 ∷ pos 0 ∷
    pos 65535 ∷ pos 0 ∷ [])
    ∷ with_each (pos 65536) (pos 65536 ∷ pos 32768 ∷ pos 0 ∷ pos 65536 ∷ pos 32768 ∷ pos 0 ∷
    pos 65536 ∷ pos 0 ∷ [])
    ∷ with_each (minus 2147483648) (minus 2147483648 ∷ pos 1073741824 ∷ pos 1 ∷ minus 2147483648 ∷
    pos 1073741824 ∷ pos 1 ∷ minus 2147483648 ∷ pos 1 ∷ [])
    ∷ with_each (minus 2147483647) (minus 2147483647 ∷ pos 1073741824 ∷ pos 1 ∷ minus 2147483647 ∷
    pos 1073741824 ∷ pos 1 ∷ minus 2147483647 ∷ pos 1 ∷ [])
    ∷ with_each (pos 2147483646) (pos 2147483646 ∷ pos 1073741823 ∷ pos 0 ∷ pos 2147483646 ∷
    pos 1073741823 ∷ pos 0 ∷ pos 2147483646 ∷ pos 0 ∷ [])
    ∷ with_each (pos 2147483647) (pos 2147483647 ∷ pos 1073741823 ∷ pos 0 ∷ pos 2147483647 ∷
    pos 1073741823 ∷ pos 0 ∷ pos 2147483647 ∷ pos 0 ∷ [])
    ∷ []

abbrev pub extended_ints : List (ℤ × ℤ)
extended_ints =
    (pos 0, pos 0) ∷ (pos 1, pos 1) ∷ (minus 1, minus 1) ∷ (pos 2, pos 2) ∷ (minus 2, minus 2) ∷
    (pos 7, pos 7) ∷ (minus 7, minus 7) ∷ (pos 127, pos 127) ∷ (pos 128, pos 128) ∷
    (pos 255, pos 255) ∷ (pos 256, pos 256) ∷ (pos 32767, pos 32767) ∷ (pos 32768, pos 32768) ∷
    (pos 65535, pos 65535) ∷ (pos 65536, pos 65536) ∷ (minus 2147483648, minus 2147483648) ∷
    (minus 2147483647, minus 2147483647) ∷ (pos 2147483646, pos 2147483646) ∷
    (pos 2147483647, pos 2147483647) ∷ []

abbrev pub byte_parts : List (ℤ × ℤ)
byte_parts =
    (pos 0, pos 0) ∷ (pos 1, pos 1) ∷ (minus 1, minus 1) ∷ (pos 2, pos 2) ∷ (minus 2, minus 2) ∷
    (pos 7, pos 7) ∷ (minus 7, minus 7) ∷ (pos 127, pos 127) ∷ (pos 128, minus 128) ∷
    (pos 255, minus 1) ∷ (pos 256, pos 0) ∷ (pos 32767, minus 1) ∷ (pos 32768, pos 0) ∷
    (pos 65535, minus 1) ∷ (pos 65536, pos 0) ∷ (minus 2147483648, pos 0) ∷
    (minus 2147483647, pos 1) ∷ (pos 2147483646, minus 2) ∷ (pos 2147483647, minus 1) ∷ []

abbrev pub char_parts : List (ℤ × ℤ)
char_parts =
    (pos 0, pos 0) ∷ (pos 1, pos 1) ∷ (minus 1, pos 65535) ∷ (pos 2, pos 2) ∷ (minus 2, pos 65534) ∷
    (pos 7, pos 7) ∷ (minus 7, pos 65529) ∷ (pos 127, pos 127) ∷ (pos 128, pos 128) ∷
    (pos 255, pos 255) ∷ (pos 256, pos 256) ∷ (pos 32767, pos 32767) ∷ (pos 32768, pos 32768) ∷
    (pos 65535, pos 65535) ∷ (pos 65536, pos 0) ∷ (minus 2147483648, pos 0) ∷
    (minus 2147483647, pos 1) ∷ (pos 2147483646, pos 65534) ∷ (pos 2147483647, pos 65535) ∷ []

abbrev pub short_parts : List (ℤ × ℤ)
short_parts =
    (pos 0, pos 0) ∷ (pos 1, pos 1) ∷ (minus 1, minus 1) ∷ (pos 2, pos 2) ∷ (minus 2, minus 2) ∷
    (pos 7, pos 7) ∷ (minus 7, minus 7) ∷ (pos 127, pos 127) ∷ (pos 128, pos 128) ∷
    (pos 255, pos 255) ∷ (pos 256, pos 256) ∷ (pos 32767, pos 32767) ∷ (pos 32768, minus 32768) ∷
    (pos 65535, minus 1) ∷ (pos 65536, pos 0) ∷ (minus 2147483648, pos 0) ∷
    (minus 2147483647, pos 1) ∷ (pos 2147483646, minus 2) ∷ (pos 2147483647, minus 1) ∷ []
