-- Results of arithmetic on ints, as a JVM printed them (JVMS 6.5, iadd to irem and ineg).
-- `checks/machine_rows` compares them with a JVM's, and with `--print` prints them.
use Rattle.std.specs.Prelude.{ℤ, pos, List, [], ◌∷◌}
use Rattle.je_machine.specs.Rows.{minus, with_each}

abbrev pub int_sums : List (ℤ × List ℤ)
int_sums =
    with_each (pos 0) (pos 0 ∷ pos 1 ∷ minus 1 ∷ pos 2 ∷ minus 2 ∷ pos 7 ∷ minus 7 ∷ pos 127 ∷
    pos 128 ∷ pos 255 ∷ pos 256 ∷ pos 32767 ∷ pos 32768 ∷ pos 65535 ∷ pos 65536 ∷ minus 2147483648 ∷
    minus 2147483647 ∷ pos 2147483646 ∷ pos 2147483647 ∷ [])
    ∷ with_each (pos 1) (pos 1 ∷ pos 2 ∷ pos 0 ∷ pos 3 ∷ minus 1 ∷ pos 8 ∷ minus 6 ∷ pos 128 ∷
    pos 129 ∷ pos 256 ∷ pos 257 ∷ pos 32768 ∷ pos 32769 ∷ pos 65536 ∷ pos 65537 ∷ minus 2147483647 ∷
    minus 2147483646 ∷ pos 2147483647 ∷ minus 2147483648 ∷ [])
    ∷ with_each (minus 1) (minus 1 ∷ pos 0 ∷ minus 2 ∷ pos 1 ∷ minus 3 ∷ pos 6 ∷ minus 8 ∷ pos 126 ∷
    pos 127 ∷ pos 254 ∷ pos 255 ∷ pos 32766 ∷ pos 32767 ∷ pos 65534 ∷ pos 65535 ∷ pos 2147483647 ∷
    minus 2147483648 ∷ pos 2147483645 ∷ pos 2147483646 ∷ [])
    ∷ with_each (pos 2) (pos 2 ∷ pos 3 ∷ pos 1 ∷ pos 4 ∷ pos 0 ∷ pos 9 ∷ minus 5 ∷ pos 129 ∷
    pos 130 ∷ pos 257 ∷ pos 258 ∷ pos 32769 ∷ pos 32770 ∷ pos 65537 ∷ pos 65538 ∷ minus 2147483646 ∷
    minus 2147483645 ∷ minus 2147483648 ∷ minus 2147483647 ∷ [])
    ∷ with_each (minus 2) (minus 2 ∷ minus 1 ∷ minus 3 ∷ pos 0 ∷ minus 4 ∷ pos 5 ∷ minus 9 ∷
    pos 125 ∷ pos 126 ∷ pos 253 ∷ pos 254 ∷ pos 32765 ∷ pos 32766 ∷ pos 65533 ∷ pos 65534 ∷
    pos 2147483646 ∷ pos 2147483647 ∷ pos 2147483644 ∷ pos 2147483645 ∷ [])
    ∷ with_each (pos 7) (pos 7 ∷ pos 8 ∷ pos 6 ∷ pos 9 ∷ pos 5 ∷ pos 14 ∷ pos 0 ∷ pos 134 ∷
    pos 135 ∷ pos 262 ∷ pos 263 ∷ pos 32774 ∷ pos 32775 ∷ pos 65542 ∷ pos 65543 ∷ minus 2147483641 ∷
    minus 2147483640 ∷ minus 2147483643 ∷ minus 2147483642 ∷ [])
    ∷ with_each (minus 7) (minus 7 ∷ minus 6 ∷ minus 8 ∷ minus 5 ∷ minus 9 ∷ pos 0 ∷ minus 14 ∷
    pos 120 ∷ pos 121 ∷ pos 248 ∷ pos 249 ∷ pos 32760 ∷ pos 32761 ∷ pos 65528 ∷ pos 65529 ∷
    pos 2147483641 ∷ pos 2147483642 ∷ pos 2147483639 ∷ pos 2147483640 ∷ [])
    ∷ with_each (pos 127) (pos 127 ∷ pos 128 ∷ pos 126 ∷ pos 129 ∷ pos 125 ∷ pos 134 ∷ pos 120 ∷
    pos 254 ∷ pos 255 ∷ pos 382 ∷ pos 383 ∷ pos 32894 ∷ pos 32895 ∷ pos 65662 ∷ pos 65663 ∷
    minus 2147483521 ∷ minus 2147483520 ∷ minus 2147483523 ∷ minus 2147483522 ∷ [])
    ∷ with_each (pos 128) (pos 128 ∷ pos 129 ∷ pos 127 ∷ pos 130 ∷ pos 126 ∷ pos 135 ∷ pos 121 ∷
    pos 255 ∷ pos 256 ∷ pos 383 ∷ pos 384 ∷ pos 32895 ∷ pos 32896 ∷ pos 65663 ∷ pos 65664 ∷
    minus 2147483520 ∷ minus 2147483519 ∷ minus 2147483522 ∷ minus 2147483521 ∷ [])
    ∷ with_each (pos 255) (pos 255 ∷ pos 256 ∷ pos 254 ∷ pos 257 ∷ pos 253 ∷ pos 262 ∷ pos 248 ∷
    pos 382 ∷ pos 383 ∷ pos 510 ∷ pos 511 ∷ pos 33022 ∷ pos 33023 ∷ pos 65790 ∷ pos 65791 ∷
    minus 2147483393 ∷ minus 2147483392 ∷ minus 2147483395 ∷ minus 2147483394 ∷ [])
    ∷ with_each (pos 256) (pos 256 ∷ pos 257 ∷ pos 255 ∷ pos 258 ∷ pos 254 ∷ pos 263 ∷ pos 249 ∷
    pos 383 ∷ pos 384 ∷ pos 511 ∷ pos 512 ∷ pos 33023 ∷ pos 33024 ∷ pos 65791 ∷ pos 65792 ∷
    minus 2147483392 ∷ minus 2147483391 ∷ minus 2147483394 ∷ minus 2147483393 ∷ [])
    ∷ with_each (pos 32767) (pos 32767 ∷ pos 32768 ∷ pos 32766 ∷ pos 32769 ∷ pos 32765 ∷ pos 32774 ∷
    pos 32760 ∷ pos 32894 ∷ pos 32895 ∷ pos 33022 ∷ pos 33023 ∷ pos 65534 ∷ pos 65535 ∷ pos 98302 ∷
    pos 98303 ∷ minus 2147450881 ∷ minus 2147450880 ∷ minus 2147450883 ∷ minus 2147450882 ∷ [])
    ∷ with_each (pos 32768) (pos 32768 ∷ pos 32769 ∷ pos 32767 ∷ pos 32770 ∷ pos 32766 ∷ pos 32775 ∷
    pos 32761 ∷ pos 32895 ∷ pos 32896 ∷ pos 33023 ∷ pos 33024 ∷ pos 65535 ∷ pos 65536 ∷ pos 98303 ∷
    pos 98304 ∷ minus 2147450880 ∷ minus 2147450879 ∷ minus 2147450882 ∷ minus 2147450881 ∷ [])
    ∷ with_each (pos 65535) (pos 65535 ∷ pos 65536 ∷ pos 65534 ∷ pos 65537 ∷ pos 65533 ∷ pos 65542 ∷
    pos 65528 ∷ pos 65662 ∷ pos 65663 ∷ pos 65790 ∷ pos 65791 ∷ pos 98302 ∷ pos 98303 ∷ pos 131070 ∷
    pos 131071 ∷ minus 2147418113 ∷ minus 2147418112 ∷ minus 2147418115 ∷ minus 2147418114 ∷ [])
    ∷ with_each (pos 65536) (pos 65536 ∷ pos 65537 ∷ pos 65535 ∷ pos 65538 ∷ pos 65534 ∷ pos 65543 ∷
    pos 65529 ∷ pos 65663 ∷ pos 65664 ∷ pos 65791 ∷ pos 65792 ∷ pos 98303 ∷ pos 98304 ∷ pos 131071 ∷
    pos 131072 ∷ minus 2147418112 ∷ minus 2147418111 ∷ minus 2147418114 ∷ minus 2147418113 ∷ [])
    ∷ with_each (minus 2147483648) (minus 2147483648 ∷ minus 2147483647 ∷ pos 2147483647 ∷
    minus 2147483646 ∷ pos 2147483646 ∷ minus 2147483641 ∷ pos 2147483641 ∷ minus 2147483521 ∷
    minus 2147483520 ∷ minus 2147483393 ∷ minus 2147483392 ∷ minus 2147450881 ∷ minus 2147450880 ∷
    minus 2147418113 ∷ minus 2147418112 ∷ pos 0 ∷ pos 1 ∷ minus 2 ∷ minus 1 ∷ [])
    ∷ with_each (minus 2147483647) (minus 2147483647 ∷ minus 2147483646 ∷ minus 2147483648 ∷
    minus 2147483645 ∷ pos 2147483647 ∷ minus 2147483640 ∷ pos 2147483642 ∷ minus 2147483520 ∷
    minus 2147483519 ∷ minus 2147483392 ∷ minus 2147483391 ∷ minus 2147450880 ∷ minus 2147450879 ∷
    minus 2147418112 ∷ minus 2147418111 ∷ pos 1 ∷ pos 2 ∷ minus 1 ∷ pos 0 ∷ [])
    ∷ with_each (pos 2147483646) (pos 2147483646 ∷ pos 2147483647 ∷ pos 2147483645 ∷
    minus 2147483648 ∷ pos 2147483644 ∷ minus 2147483643 ∷ pos 2147483639 ∷ minus 2147483523 ∷
    minus 2147483522 ∷ minus 2147483395 ∷ minus 2147483394 ∷ minus 2147450883 ∷ minus 2147450882 ∷
    minus 2147418115 ∷ minus 2147418114 ∷ minus 2 ∷ minus 1 ∷ minus 4 ∷ minus 3 ∷ [])
    ∷ with_each (pos 2147483647) (pos 2147483647 ∷ minus 2147483648 ∷ pos 2147483646 ∷
    minus 2147483647 ∷ pos 2147483645 ∷ minus 2147483642 ∷ pos 2147483640 ∷ minus 2147483522 ∷
    minus 2147483521 ∷ minus 2147483394 ∷ minus 2147483393 ∷ minus 2147450882 ∷ minus 2147450881 ∷
    minus 2147418114 ∷ minus 2147418113 ∷ minus 1 ∷ pos 0 ∷ minus 3 ∷ minus 2 ∷ [])
    ∷ []

abbrev pub int_differences : List (ℤ × List ℤ)
int_differences =
    with_each (pos 0) (pos 0 ∷ minus 1 ∷ pos 1 ∷ minus 2 ∷ pos 2 ∷ minus 7 ∷ pos 7 ∷ minus 127 ∷
    minus 128 ∷ minus 255 ∷ minus 256 ∷ minus 32767 ∷ minus 32768 ∷ minus 65535 ∷ minus 65536 ∷
    minus 2147483648 ∷ pos 2147483647 ∷ minus 2147483646 ∷ minus 2147483647 ∷ [])
    ∷ with_each (pos 1) (pos 1 ∷ pos 0 ∷ pos 2 ∷ minus 1 ∷ pos 3 ∷ minus 6 ∷ pos 8 ∷ minus 126 ∷
    minus 127 ∷ minus 254 ∷ minus 255 ∷ minus 32766 ∷ minus 32767 ∷ minus 65534 ∷ minus 65535 ∷
    minus 2147483647 ∷ minus 2147483648 ∷ minus 2147483645 ∷ minus 2147483646 ∷ [])
    ∷ with_each (minus 1) (minus 1 ∷ minus 2 ∷ pos 0 ∷ minus 3 ∷ pos 1 ∷ minus 8 ∷ pos 6 ∷
    minus 128 ∷ minus 129 ∷ minus 256 ∷ minus 257 ∷ minus 32768 ∷ minus 32769 ∷ minus 65536 ∷
    minus 65537 ∷ pos 2147483647 ∷ pos 2147483646 ∷ minus 2147483647 ∷ minus 2147483648 ∷ [])
    ∷ with_each (pos 2) (pos 2 ∷ pos 1 ∷ pos 3 ∷ pos 0 ∷ pos 4 ∷ minus 5 ∷ pos 9 ∷ minus 125 ∷
    minus 126 ∷ minus 253 ∷ minus 254 ∷ minus 32765 ∷ minus 32766 ∷ minus 65533 ∷ minus 65534 ∷
    minus 2147483646 ∷ minus 2147483647 ∷ minus 2147483644 ∷ minus 2147483645 ∷ [])
    ∷ with_each (minus 2) (minus 2 ∷ minus 3 ∷ minus 1 ∷ minus 4 ∷ pos 0 ∷ minus 9 ∷ pos 5 ∷
    minus 129 ∷ minus 130 ∷ minus 257 ∷ minus 258 ∷ minus 32769 ∷ minus 32770 ∷ minus 65537 ∷
    minus 65538 ∷ pos 2147483646 ∷ pos 2147483645 ∷ minus 2147483648 ∷ pos 2147483647 ∷ [])
    ∷ with_each (pos 7) (pos 7 ∷ pos 6 ∷ pos 8 ∷ pos 5 ∷ pos 9 ∷ pos 0 ∷ pos 14 ∷ minus 120 ∷
    minus 121 ∷ minus 248 ∷ minus 249 ∷ minus 32760 ∷ minus 32761 ∷ minus 65528 ∷ minus 65529 ∷
    minus 2147483641 ∷ minus 2147483642 ∷ minus 2147483639 ∷ minus 2147483640 ∷ [])
    ∷ with_each (minus 7) (minus 7 ∷ minus 8 ∷ minus 6 ∷ minus 9 ∷ minus 5 ∷ minus 14 ∷ pos 0 ∷
    minus 134 ∷ minus 135 ∷ minus 262 ∷ minus 263 ∷ minus 32774 ∷ minus 32775 ∷ minus 65542 ∷
    minus 65543 ∷ pos 2147483641 ∷ pos 2147483640 ∷ pos 2147483643 ∷ pos 2147483642 ∷ [])
    ∷ with_each (pos 127) (pos 127 ∷ pos 126 ∷ pos 128 ∷ pos 125 ∷ pos 129 ∷ pos 120 ∷ pos 134 ∷
    pos 0 ∷ minus 1 ∷ minus 128 ∷ minus 129 ∷ minus 32640 ∷ minus 32641 ∷ minus 65408 ∷
    minus 65409 ∷ minus 2147483521 ∷ minus 2147483522 ∷ minus 2147483519 ∷ minus 2147483520 ∷ [])
    ∷ with_each (pos 128) (pos 128 ∷ pos 127 ∷ pos 129 ∷ pos 126 ∷ pos 130 ∷ pos 121 ∷ pos 135 ∷
    pos 1 ∷ pos 0 ∷ minus 127 ∷ minus 128 ∷ minus 32639 ∷ minus 32640 ∷ minus 65407 ∷ minus 65408 ∷
    minus 2147483520 ∷ minus 2147483521 ∷ minus 2147483518 ∷ minus 2147483519 ∷ [])
    ∷ with_each (pos 255) (pos 255 ∷ pos 254 ∷ pos 256 ∷ pos 253 ∷ pos 257 ∷ pos 248 ∷ pos 262 ∷
    pos 128 ∷ pos 127 ∷ pos 0 ∷ minus 1 ∷ minus 32512 ∷ minus 32513 ∷ minus 65280 ∷ minus 65281 ∷
    minus 2147483393 ∷ minus 2147483394 ∷ minus 2147483391 ∷ minus 2147483392 ∷ [])
    ∷ with_each (pos 256) (pos 256 ∷ pos 255 ∷ pos 257 ∷ pos 254 ∷ pos 258 ∷ pos 249 ∷ pos 263 ∷
    pos 129 ∷ pos 128 ∷ pos 1 ∷ pos 0 ∷ minus 32511 ∷ minus 32512 ∷ minus 65279 ∷ minus 65280 ∷
    minus 2147483392 ∷ minus 2147483393 ∷ minus 2147483390 ∷ minus 2147483391 ∷ [])
    ∷ with_each (pos 32767) (pos 32767 ∷ pos 32766 ∷ pos 32768 ∷ pos 32765 ∷ pos 32769 ∷ pos 32760 ∷
    pos 32774 ∷ pos 32640 ∷ pos 32639 ∷ pos 32512 ∷ pos 32511 ∷ pos 0 ∷ minus 1 ∷ minus 32768 ∷
    minus 32769 ∷ minus 2147450881 ∷ minus 2147450882 ∷ minus 2147450879 ∷ minus 2147450880 ∷ [])
    ∷ with_each (pos 32768) (pos 32768 ∷ pos 32767 ∷ pos 32769 ∷ pos 32766 ∷ pos 32770 ∷ pos 32761 ∷
    pos 32775 ∷ pos 32641 ∷ pos 32640 ∷ pos 32513 ∷ pos 32512 ∷ pos 1 ∷ pos 0 ∷ minus 32767 ∷
    minus 32768 ∷ minus 2147450880 ∷ minus 2147450881 ∷ minus 2147450878 ∷ minus 2147450879 ∷ [])
    ∷ with_each (pos 65535) (pos 65535 ∷ pos 65534 ∷ pos 65536 ∷ pos 65533 ∷ pos 65537 ∷ pos 65528 ∷
    pos 65542 ∷ pos 65408 ∷ pos 65407 ∷ pos 65280 ∷ pos 65279 ∷ pos 32768 ∷ pos 32767 ∷ pos 0 ∷
    minus 1 ∷ minus 2147418113 ∷ minus 2147418114 ∷ minus 2147418111 ∷ minus 2147418112 ∷ [])
    ∷ with_each (pos 65536) (pos 65536 ∷ pos 65535 ∷ pos 65537 ∷ pos 65534 ∷ pos 65538 ∷ pos 65529 ∷
    pos 65543 ∷ pos 65409 ∷ pos 65408 ∷ pos 65281 ∷ pos 65280 ∷ pos 32769 ∷ pos 32768 ∷ pos 1 ∷
    pos 0 ∷ minus 2147418112 ∷ minus 2147418113 ∷ minus 2147418110 ∷ minus 2147418111 ∷ [])
    ∷ with_each (minus 2147483648) (minus 2147483648 ∷ pos 2147483647 ∷ minus 2147483647 ∷
    pos 2147483646 ∷ minus 2147483646 ∷ pos 2147483641 ∷ minus 2147483641 ∷ pos 2147483521 ∷
    pos 2147483520 ∷ pos 2147483393 ∷ pos 2147483392 ∷ pos 2147450881 ∷ pos 2147450880 ∷
    pos 2147418113 ∷ pos 2147418112 ∷ pos 0 ∷ minus 1 ∷ pos 2 ∷ pos 1 ∷ [])
    ∷ with_each (minus 2147483647) (minus 2147483647 ∷ minus 2147483648 ∷ minus 2147483646 ∷
    pos 2147483647 ∷ minus 2147483645 ∷ pos 2147483642 ∷ minus 2147483640 ∷ pos 2147483522 ∷
    pos 2147483521 ∷ pos 2147483394 ∷ pos 2147483393 ∷ pos 2147450882 ∷ pos 2147450881 ∷
    pos 2147418114 ∷ pos 2147418113 ∷ pos 1 ∷ pos 0 ∷ pos 3 ∷ pos 2 ∷ [])
    ∷ with_each (pos 2147483646) (pos 2147483646 ∷ pos 2147483645 ∷ pos 2147483647 ∷
    pos 2147483644 ∷ minus 2147483648 ∷ pos 2147483639 ∷ minus 2147483643 ∷ pos 2147483519 ∷
    pos 2147483518 ∷ pos 2147483391 ∷ pos 2147483390 ∷ pos 2147450879 ∷ pos 2147450878 ∷
    pos 2147418111 ∷ pos 2147418110 ∷ minus 2 ∷ minus 3 ∷ pos 0 ∷ minus 1 ∷ [])
    ∷ with_each (pos 2147483647) (pos 2147483647 ∷ pos 2147483646 ∷ minus 2147483648 ∷
    pos 2147483645 ∷ minus 2147483647 ∷ pos 2147483640 ∷ minus 2147483642 ∷ pos 2147483520 ∷
    pos 2147483519 ∷ pos 2147483392 ∷ pos 2147483391 ∷ pos 2147450880 ∷ pos 2147450879 ∷
    pos 2147418112 ∷ pos 2147418111 ∷ minus 1 ∷ minus 2 ∷ pos 1 ∷ pos 0 ∷ [])
    ∷ []

abbrev pub int_products : List (ℤ × List ℤ)
int_products =
    with_each (pos 0) (pos 0 ∷ pos 0 ∷ pos 0 ∷ pos 0 ∷ pos 0 ∷ pos 0 ∷ pos 0 ∷ pos 0 ∷ pos 0 ∷
    pos 0 ∷ pos 0 ∷ pos 0 ∷ pos 0 ∷ pos 0 ∷ pos 0 ∷ pos 0 ∷ pos 0 ∷ pos 0 ∷ pos 0 ∷ [])
    ∷ with_each (pos 1) (pos 0 ∷ pos 1 ∷ minus 1 ∷ pos 2 ∷ minus 2 ∷ pos 7 ∷ minus 7 ∷ pos 127 ∷
    pos 128 ∷ pos 255 ∷ pos 256 ∷ pos 32767 ∷ pos 32768 ∷ pos 65535 ∷ pos 65536 ∷ minus 2147483648 ∷
    minus 2147483647 ∷ pos 2147483646 ∷ pos 2147483647 ∷ [])
    ∷ with_each (minus 1) (pos 0 ∷ minus 1 ∷ pos 1 ∷ minus 2 ∷ pos 2 ∷ minus 7 ∷ pos 7 ∷ minus 127 ∷
    minus 128 ∷ minus 255 ∷ minus 256 ∷ minus 32767 ∷ minus 32768 ∷ minus 65535 ∷ minus 65536 ∷
    minus 2147483648 ∷ pos 2147483647 ∷ minus 2147483646 ∷ minus 2147483647 ∷ [])
    ∷ with_each (pos 2) (pos 0 ∷ pos 2 ∷ minus 2 ∷ pos 4 ∷ minus 4 ∷ pos 14 ∷ minus 14 ∷ pos 254 ∷
    pos 256 ∷ pos 510 ∷ pos 512 ∷ pos 65534 ∷ pos 65536 ∷ pos 131070 ∷ pos 131072 ∷ pos 0 ∷ pos 2 ∷
    minus 4 ∷ minus 2 ∷ [])
    ∷ with_each (minus 2) (pos 0 ∷ minus 2 ∷ pos 2 ∷ minus 4 ∷ pos 4 ∷ minus 14 ∷ pos 14 ∷
    minus 254 ∷ minus 256 ∷ minus 510 ∷ minus 512 ∷ minus 65534 ∷ minus 65536 ∷ minus 131070 ∷
    minus 131072 ∷ pos 0 ∷ minus 2 ∷ pos 4 ∷ pos 2 ∷ [])
    ∷ with_each (pos 7) (pos 0 ∷ pos 7 ∷ minus 7 ∷ pos 14 ∷ minus 14 ∷ pos 49 ∷ minus 49 ∷ pos 889 ∷
    pos 896 ∷ pos 1785 ∷ pos 1792 ∷ pos 229369 ∷ pos 229376 ∷ pos 458745 ∷ pos 458752 ∷
    minus 2147483648 ∷ minus 2147483641 ∷ pos 2147483634 ∷ pos 2147483641 ∷ [])
    ∷ with_each (minus 7) (pos 0 ∷ minus 7 ∷ pos 7 ∷ minus 14 ∷ pos 14 ∷ minus 49 ∷ pos 49 ∷
    minus 889 ∷ minus 896 ∷ minus 1785 ∷ minus 1792 ∷ minus 229369 ∷ minus 229376 ∷ minus 458745 ∷
    minus 458752 ∷ minus 2147483648 ∷ pos 2147483641 ∷ minus 2147483634 ∷ minus 2147483641 ∷ [])
    ∷ with_each (pos 127) (pos 0 ∷ pos 127 ∷ minus 127 ∷ pos 254 ∷ minus 254 ∷ pos 889 ∷ minus 889 ∷
    pos 16129 ∷ pos 16256 ∷ pos 32385 ∷ pos 32512 ∷ pos 4161409 ∷ pos 4161536 ∷ pos 8322945 ∷
    pos 8323072 ∷ minus 2147483648 ∷ minus 2147483521 ∷ pos 2147483394 ∷ pos 2147483521 ∷ [])
    ∷ with_each (pos 128) (pos 0 ∷ pos 128 ∷ minus 128 ∷ pos 256 ∷ minus 256 ∷ pos 896 ∷ minus 896 ∷
    pos 16256 ∷ pos 16384 ∷ pos 32640 ∷ pos 32768 ∷ pos 4194176 ∷ pos 4194304 ∷ pos 8388480 ∷
    pos 8388608 ∷ pos 0 ∷ pos 128 ∷ minus 256 ∷ minus 128 ∷ [])
    ∷ with_each (pos 255) (pos 0 ∷ pos 255 ∷ minus 255 ∷ pos 510 ∷ minus 510 ∷ pos 1785 ∷
    minus 1785 ∷ pos 32385 ∷ pos 32640 ∷ pos 65025 ∷ pos 65280 ∷ pos 8355585 ∷ pos 8355840 ∷
    pos 16711425 ∷ pos 16711680 ∷ minus 2147483648 ∷ minus 2147483393 ∷ pos 2147483138 ∷
    pos 2147483393 ∷ [])
    ∷ with_each (pos 256) (pos 0 ∷ pos 256 ∷ minus 256 ∷ pos 512 ∷ minus 512 ∷ pos 1792 ∷
    minus 1792 ∷ pos 32512 ∷ pos 32768 ∷ pos 65280 ∷ pos 65536 ∷ pos 8388352 ∷ pos 8388608 ∷
    pos 16776960 ∷ pos 16777216 ∷ pos 0 ∷ pos 256 ∷ minus 512 ∷ minus 256 ∷ [])
    ∷ with_each (pos 32767) (pos 0 ∷ pos 32767 ∷ minus 32767 ∷ pos 65534 ∷ minus 65534 ∷
    pos 229369 ∷ minus 229369 ∷ pos 4161409 ∷ pos 4194176 ∷ pos 8355585 ∷ pos 8388352 ∷
    pos 1073676289 ∷ pos 1073709056 ∷ pos 2147385345 ∷ pos 2147418112 ∷ minus 2147483648 ∷
    minus 2147450881 ∷ pos 2147418114 ∷ pos 2147450881 ∷ [])
    ∷ with_each (pos 32768) (pos 0 ∷ pos 32768 ∷ minus 32768 ∷ pos 65536 ∷ minus 65536 ∷
    pos 229376 ∷ minus 229376 ∷ pos 4161536 ∷ pos 4194304 ∷ pos 8355840 ∷ pos 8388608 ∷
    pos 1073709056 ∷ pos 1073741824 ∷ pos 2147450880 ∷ minus 2147483648 ∷ pos 0 ∷ pos 32768 ∷
    minus 65536 ∷ minus 32768 ∷ [])
    ∷ with_each (pos 65535) (pos 0 ∷ pos 65535 ∷ minus 65535 ∷ pos 131070 ∷ minus 131070 ∷
    pos 458745 ∷ minus 458745 ∷ pos 8322945 ∷ pos 8388480 ∷ pos 16711425 ∷ pos 16776960 ∷
    pos 2147385345 ∷ pos 2147450880 ∷ minus 131071 ∷ minus 65536 ∷ minus 2147483648 ∷
    minus 2147418113 ∷ pos 2147352578 ∷ pos 2147418113 ∷ [])
    ∷ with_each (pos 65536) (pos 0 ∷ pos 65536 ∷ minus 65536 ∷ pos 131072 ∷ minus 131072 ∷
    pos 458752 ∷ minus 458752 ∷ pos 8323072 ∷ pos 8388608 ∷ pos 16711680 ∷ pos 16777216 ∷
    pos 2147418112 ∷ minus 2147483648 ∷ minus 65536 ∷ pos 0 ∷ pos 0 ∷ pos 65536 ∷ minus 131072 ∷
    minus 65536 ∷ [])
    ∷ with_each (minus 2147483648) (pos 0 ∷ minus 2147483648 ∷ minus 2147483648 ∷ pos 0 ∷ pos 0 ∷
    minus 2147483648 ∷ minus 2147483648 ∷ minus 2147483648 ∷ pos 0 ∷ minus 2147483648 ∷ pos 0 ∷
    minus 2147483648 ∷ pos 0 ∷ minus 2147483648 ∷ pos 0 ∷ pos 0 ∷ minus 2147483648 ∷ pos 0 ∷
    minus 2147483648 ∷ [])
    ∷ with_each (minus 2147483647) (pos 0 ∷ minus 2147483647 ∷ pos 2147483647 ∷ pos 2 ∷ minus 2 ∷
    minus 2147483641 ∷ pos 2147483641 ∷ minus 2147483521 ∷ pos 128 ∷ minus 2147483393 ∷ pos 256 ∷
    minus 2147450881 ∷ pos 32768 ∷ minus 2147418113 ∷ pos 65536 ∷ minus 2147483648 ∷ pos 1 ∷
    pos 2147483646 ∷ minus 1 ∷ [])
    ∷ with_each (pos 2147483646) (pos 0 ∷ pos 2147483646 ∷ minus 2147483646 ∷ minus 4 ∷ pos 4 ∷
    pos 2147483634 ∷ minus 2147483634 ∷ pos 2147483394 ∷ minus 256 ∷ pos 2147483138 ∷ minus 512 ∷
    pos 2147418114 ∷ minus 65536 ∷ pos 2147352578 ∷ minus 131072 ∷ pos 0 ∷ pos 2147483646 ∷ pos 4 ∷
    minus 2147483646 ∷ [])
    ∷ with_each (pos 2147483647) (pos 0 ∷ pos 2147483647 ∷ minus 2147483647 ∷ minus 2 ∷ pos 2 ∷
    pos 2147483641 ∷ minus 2147483641 ∷ pos 2147483521 ∷ minus 128 ∷ pos 2147483393 ∷ minus 256 ∷
    pos 2147450881 ∷ minus 32768 ∷ pos 2147418113 ∷ minus 65536 ∷ minus 2147483648 ∷ minus 1 ∷
    minus 2147483646 ∷ pos 1 ∷ [])
    ∷ []

abbrev pub int_quotients : List (ℤ × List ℤ)
int_quotients =
    with_each (pos 0) (pos 0 ∷ pos 0 ∷ pos 0 ∷ pos 0 ∷ pos 0 ∷ pos 0 ∷ pos 0 ∷ pos 0 ∷ pos 0 ∷
    pos 0 ∷ pos 0 ∷ pos 0 ∷ pos 0 ∷ pos 0 ∷ pos 0 ∷ pos 0 ∷ pos 0 ∷ pos 0 ∷ [])
    ∷ with_each (pos 1) (pos 1 ∷ minus 1 ∷ pos 0 ∷ pos 0 ∷ pos 0 ∷ pos 0 ∷ pos 0 ∷ pos 0 ∷ pos 0 ∷
    pos 0 ∷ pos 0 ∷ pos 0 ∷ pos 0 ∷ pos 0 ∷ pos 0 ∷ pos 0 ∷ pos 0 ∷ pos 0 ∷ [])
    ∷ with_each (minus 1) (minus 1 ∷ pos 1 ∷ pos 0 ∷ pos 0 ∷ pos 0 ∷ pos 0 ∷ pos 0 ∷ pos 0 ∷ pos 0 ∷
    pos 0 ∷ pos 0 ∷ pos 0 ∷ pos 0 ∷ pos 0 ∷ pos 0 ∷ pos 0 ∷ pos 0 ∷ pos 0 ∷ [])
    ∷ with_each (pos 2) (pos 2 ∷ minus 2 ∷ pos 1 ∷ minus 1 ∷ pos 0 ∷ pos 0 ∷ pos 0 ∷ pos 0 ∷ pos 0 ∷
    pos 0 ∷ pos 0 ∷ pos 0 ∷ pos 0 ∷ pos 0 ∷ pos 0 ∷ pos 0 ∷ pos 0 ∷ pos 0 ∷ [])
    ∷ with_each (minus 2) (minus 2 ∷ pos 2 ∷ minus 1 ∷ pos 1 ∷ pos 0 ∷ pos 0 ∷ pos 0 ∷ pos 0 ∷
    pos 0 ∷ pos 0 ∷ pos 0 ∷ pos 0 ∷ pos 0 ∷ pos 0 ∷ pos 0 ∷ pos 0 ∷ pos 0 ∷ pos 0 ∷ [])
    ∷ with_each (pos 7) (pos 7 ∷ minus 7 ∷ pos 3 ∷ minus 3 ∷ pos 1 ∷ minus 1 ∷ pos 0 ∷ pos 0 ∷
    pos 0 ∷ pos 0 ∷ pos 0 ∷ pos 0 ∷ pos 0 ∷ pos 0 ∷ pos 0 ∷ pos 0 ∷ pos 0 ∷ pos 0 ∷ [])
    ∷ with_each (minus 7) (minus 7 ∷ pos 7 ∷ minus 3 ∷ pos 3 ∷ minus 1 ∷ pos 1 ∷ pos 0 ∷ pos 0 ∷
    pos 0 ∷ pos 0 ∷ pos 0 ∷ pos 0 ∷ pos 0 ∷ pos 0 ∷ pos 0 ∷ pos 0 ∷ pos 0 ∷ pos 0 ∷ [])
    ∷ with_each (pos 127) (pos 127 ∷ minus 127 ∷ pos 63 ∷ minus 63 ∷ pos 18 ∷ minus 18 ∷ pos 1 ∷
    pos 0 ∷ pos 0 ∷ pos 0 ∷ pos 0 ∷ pos 0 ∷ pos 0 ∷ pos 0 ∷ pos 0 ∷ pos 0 ∷ pos 0 ∷ pos 0 ∷ [])
    ∷ with_each (pos 128) (pos 128 ∷ minus 128 ∷ pos 64 ∷ minus 64 ∷ pos 18 ∷ minus 18 ∷ pos 1 ∷
    pos 1 ∷ pos 0 ∷ pos 0 ∷ pos 0 ∷ pos 0 ∷ pos 0 ∷ pos 0 ∷ pos 0 ∷ pos 0 ∷ pos 0 ∷ pos 0 ∷ [])
    ∷ with_each (pos 255) (pos 255 ∷ minus 255 ∷ pos 127 ∷ minus 127 ∷ pos 36 ∷ minus 36 ∷ pos 2 ∷
    pos 1 ∷ pos 1 ∷ pos 0 ∷ pos 0 ∷ pos 0 ∷ pos 0 ∷ pos 0 ∷ pos 0 ∷ pos 0 ∷ pos 0 ∷ pos 0 ∷ [])
    ∷ with_each (pos 256) (pos 256 ∷ minus 256 ∷ pos 128 ∷ minus 128 ∷ pos 36 ∷ minus 36 ∷ pos 2 ∷
    pos 2 ∷ pos 1 ∷ pos 1 ∷ pos 0 ∷ pos 0 ∷ pos 0 ∷ pos 0 ∷ pos 0 ∷ pos 0 ∷ pos 0 ∷ pos 0 ∷ [])
    ∷ with_each (pos 32767) (pos 32767 ∷ minus 32767 ∷ pos 16383 ∷ minus 16383 ∷ pos 4681 ∷
    minus 4681 ∷ pos 258 ∷ pos 255 ∷ pos 128 ∷ pos 127 ∷ pos 1 ∷ pos 0 ∷ pos 0 ∷ pos 0 ∷ pos 0 ∷
    pos 0 ∷ pos 0 ∷ pos 0 ∷ [])
    ∷ with_each (pos 32768) (pos 32768 ∷ minus 32768 ∷ pos 16384 ∷ minus 16384 ∷ pos 4681 ∷
    minus 4681 ∷ pos 258 ∷ pos 256 ∷ pos 128 ∷ pos 128 ∷ pos 1 ∷ pos 1 ∷ pos 0 ∷ pos 0 ∷ pos 0 ∷
    pos 0 ∷ pos 0 ∷ pos 0 ∷ [])
    ∷ with_each (pos 65535) (pos 65535 ∷ minus 65535 ∷ pos 32767 ∷ minus 32767 ∷ pos 9362 ∷
    minus 9362 ∷ pos 516 ∷ pos 511 ∷ pos 257 ∷ pos 255 ∷ pos 2 ∷ pos 1 ∷ pos 1 ∷ pos 0 ∷ pos 0 ∷
    pos 0 ∷ pos 0 ∷ pos 0 ∷ [])
    ∷ with_each (pos 65536) (pos 65536 ∷ minus 65536 ∷ pos 32768 ∷ minus 32768 ∷ pos 9362 ∷
    minus 9362 ∷ pos 516 ∷ pos 512 ∷ pos 257 ∷ pos 256 ∷ pos 2 ∷ pos 2 ∷ pos 1 ∷ pos 1 ∷ pos 0 ∷
    pos 0 ∷ pos 0 ∷ pos 0 ∷ [])
    ∷ with_each (minus 2147483648) (minus 2147483648 ∷ minus 2147483648 ∷ minus 1073741824 ∷
    pos 1073741824 ∷ minus 306783378 ∷ pos 306783378 ∷ minus 16909320 ∷ minus 16777216 ∷
    minus 8421504 ∷ minus 8388608 ∷ minus 65538 ∷ minus 65536 ∷ minus 32768 ∷ minus 32768 ∷ pos 1 ∷
    pos 1 ∷ minus 1 ∷ minus 1 ∷ [])
    ∷ with_each (minus 2147483647) (minus 2147483647 ∷ pos 2147483647 ∷ minus 1073741823 ∷
    pos 1073741823 ∷ minus 306783378 ∷ pos 306783378 ∷ minus 16909320 ∷ minus 16777215 ∷
    minus 8421504 ∷ minus 8388607 ∷ minus 65538 ∷ minus 65535 ∷ minus 32768 ∷ minus 32767 ∷ pos 0 ∷
    pos 1 ∷ minus 1 ∷ minus 1 ∷ [])
    ∷ with_each (pos 2147483646) (pos 2147483646 ∷ minus 2147483646 ∷ pos 1073741823 ∷
    minus 1073741823 ∷ pos 306783378 ∷ minus 306783378 ∷ pos 16909320 ∷ pos 16777215 ∷ pos 8421504 ∷
    pos 8388607 ∷ pos 65538 ∷ pos 65535 ∷ pos 32768 ∷ pos 32767 ∷ pos 0 ∷ pos 0 ∷ pos 1 ∷ pos 0 ∷
    [])
    ∷ with_each (pos 2147483647) (pos 2147483647 ∷ minus 2147483647 ∷ pos 1073741823 ∷
    minus 1073741823 ∷ pos 306783378 ∷ minus 306783378 ∷ pos 16909320 ∷ pos 16777215 ∷ pos 8421504 ∷
    pos 8388607 ∷ pos 65538 ∷ pos 65535 ∷ pos 32768 ∷ pos 32767 ∷ pos 0 ∷ minus 1 ∷ pos 1 ∷ pos 1 ∷
    [])
    ∷ []

abbrev pub int_remainders : List (ℤ × List ℤ)
int_remainders =
    with_each (pos 0) (pos 0 ∷ pos 0 ∷ pos 0 ∷ pos 0 ∷ pos 0 ∷ pos 0 ∷ pos 0 ∷ pos 0 ∷ pos 0 ∷
    pos 0 ∷ pos 0 ∷ pos 0 ∷ pos 0 ∷ pos 0 ∷ pos 0 ∷ pos 0 ∷ pos 0 ∷ pos 0 ∷ [])
    ∷ with_each (pos 1) (pos 0 ∷ pos 0 ∷ pos 1 ∷ pos 1 ∷ pos 1 ∷ pos 1 ∷ pos 1 ∷ pos 1 ∷ pos 1 ∷
    pos 1 ∷ pos 1 ∷ pos 1 ∷ pos 1 ∷ pos 1 ∷ pos 1 ∷ pos 1 ∷ pos 1 ∷ pos 1 ∷ [])
    ∷ with_each (minus 1) (pos 0 ∷ pos 0 ∷ minus 1 ∷ minus 1 ∷ minus 1 ∷ minus 1 ∷ minus 1 ∷
    minus 1 ∷ minus 1 ∷ minus 1 ∷ minus 1 ∷ minus 1 ∷ minus 1 ∷ minus 1 ∷ minus 1 ∷ minus 1 ∷
    minus 1 ∷ minus 1 ∷ [])
    ∷ with_each (pos 2) (pos 0 ∷ pos 0 ∷ pos 0 ∷ pos 0 ∷ pos 2 ∷ pos 2 ∷ pos 2 ∷ pos 2 ∷ pos 2 ∷
    pos 2 ∷ pos 2 ∷ pos 2 ∷ pos 2 ∷ pos 2 ∷ pos 2 ∷ pos 2 ∷ pos 2 ∷ pos 2 ∷ [])
    ∷ with_each (minus 2) (pos 0 ∷ pos 0 ∷ pos 0 ∷ pos 0 ∷ minus 2 ∷ minus 2 ∷ minus 2 ∷ minus 2 ∷
    minus 2 ∷ minus 2 ∷ minus 2 ∷ minus 2 ∷ minus 2 ∷ minus 2 ∷ minus 2 ∷ minus 2 ∷ minus 2 ∷
    minus 2 ∷ [])
    ∷ with_each (pos 7) (pos 0 ∷ pos 0 ∷ pos 1 ∷ pos 1 ∷ pos 0 ∷ pos 0 ∷ pos 7 ∷ pos 7 ∷ pos 7 ∷
    pos 7 ∷ pos 7 ∷ pos 7 ∷ pos 7 ∷ pos 7 ∷ pos 7 ∷ pos 7 ∷ pos 7 ∷ pos 7 ∷ [])
    ∷ with_each (minus 7) (pos 0 ∷ pos 0 ∷ minus 1 ∷ minus 1 ∷ pos 0 ∷ pos 0 ∷ minus 7 ∷ minus 7 ∷
    minus 7 ∷ minus 7 ∷ minus 7 ∷ minus 7 ∷ minus 7 ∷ minus 7 ∷ minus 7 ∷ minus 7 ∷ minus 7 ∷
    minus 7 ∷ [])
    ∷ with_each (pos 127) (pos 0 ∷ pos 0 ∷ pos 1 ∷ pos 1 ∷ pos 1 ∷ pos 1 ∷ pos 0 ∷ pos 127 ∷
    pos 127 ∷ pos 127 ∷ pos 127 ∷ pos 127 ∷ pos 127 ∷ pos 127 ∷ pos 127 ∷ pos 127 ∷ pos 127 ∷
    pos 127 ∷ [])
    ∷ with_each (pos 128) (pos 0 ∷ pos 0 ∷ pos 0 ∷ pos 0 ∷ pos 2 ∷ pos 2 ∷ pos 1 ∷ pos 0 ∷ pos 128 ∷
    pos 128 ∷ pos 128 ∷ pos 128 ∷ pos 128 ∷ pos 128 ∷ pos 128 ∷ pos 128 ∷ pos 128 ∷ pos 128 ∷ [])
    ∷ with_each (pos 255) (pos 0 ∷ pos 0 ∷ pos 1 ∷ pos 1 ∷ pos 3 ∷ pos 3 ∷ pos 1 ∷ pos 127 ∷ pos 0 ∷
    pos 255 ∷ pos 255 ∷ pos 255 ∷ pos 255 ∷ pos 255 ∷ pos 255 ∷ pos 255 ∷ pos 255 ∷ pos 255 ∷ [])
    ∷ with_each (pos 256) (pos 0 ∷ pos 0 ∷ pos 0 ∷ pos 0 ∷ pos 4 ∷ pos 4 ∷ pos 2 ∷ pos 0 ∷ pos 1 ∷
    pos 0 ∷ pos 256 ∷ pos 256 ∷ pos 256 ∷ pos 256 ∷ pos 256 ∷ pos 256 ∷ pos 256 ∷ pos 256 ∷ [])
    ∷ with_each (pos 32767) (pos 0 ∷ pos 0 ∷ pos 1 ∷ pos 1 ∷ pos 0 ∷ pos 0 ∷ pos 1 ∷ pos 127 ∷
    pos 127 ∷ pos 255 ∷ pos 0 ∷ pos 32767 ∷ pos 32767 ∷ pos 32767 ∷ pos 32767 ∷ pos 32767 ∷
    pos 32767 ∷ pos 32767 ∷ [])
    ∷ with_each (pos 32768) (pos 0 ∷ pos 0 ∷ pos 0 ∷ pos 0 ∷ pos 1 ∷ pos 1 ∷ pos 2 ∷ pos 0 ∷
    pos 128 ∷ pos 0 ∷ pos 1 ∷ pos 0 ∷ pos 32768 ∷ pos 32768 ∷ pos 32768 ∷ pos 32768 ∷ pos 32768 ∷
    pos 32768 ∷ [])
    ∷ with_each (pos 65535) (pos 0 ∷ pos 0 ∷ pos 1 ∷ pos 1 ∷ pos 1 ∷ pos 1 ∷ pos 3 ∷ pos 127 ∷
    pos 0 ∷ pos 255 ∷ pos 1 ∷ pos 32767 ∷ pos 0 ∷ pos 65535 ∷ pos 65535 ∷ pos 65535 ∷ pos 65535 ∷
    pos 65535 ∷ [])
    ∷ with_each (pos 65536) (pos 0 ∷ pos 0 ∷ pos 0 ∷ pos 0 ∷ pos 2 ∷ pos 2 ∷ pos 4 ∷ pos 0 ∷ pos 1 ∷
    pos 0 ∷ pos 2 ∷ pos 0 ∷ pos 1 ∷ pos 0 ∷ pos 65536 ∷ pos 65536 ∷ pos 65536 ∷ pos 65536 ∷ [])
    ∷ with_each (minus 2147483648) (pos 0 ∷ pos 0 ∷ pos 0 ∷ pos 0 ∷ minus 2 ∷ minus 2 ∷ minus 8 ∷
    pos 0 ∷ minus 128 ∷ pos 0 ∷ minus 2 ∷ pos 0 ∷ minus 32768 ∷ pos 0 ∷ pos 0 ∷ minus 1 ∷ minus 2 ∷
    minus 1 ∷ [])
    ∷ with_each (minus 2147483647) (pos 0 ∷ pos 0 ∷ minus 1 ∷ minus 1 ∷ minus 1 ∷ minus 1 ∷
    minus 7 ∷ minus 127 ∷ minus 127 ∷ minus 255 ∷ minus 1 ∷ minus 32767 ∷ minus 32767 ∷
    minus 65535 ∷ minus 2147483647 ∷ pos 0 ∷ minus 1 ∷ pos 0 ∷ [])
    ∷ with_each (pos 2147483646) (pos 0 ∷ pos 0 ∷ pos 0 ∷ pos 0 ∷ pos 0 ∷ pos 0 ∷ pos 6 ∷ pos 126 ∷
    pos 126 ∷ pos 254 ∷ pos 0 ∷ pos 32766 ∷ pos 32766 ∷ pos 65534 ∷ pos 2147483646 ∷
    pos 2147483646 ∷ pos 0 ∷ pos 2147483646 ∷ [])
    ∷ with_each (pos 2147483647) (pos 0 ∷ pos 0 ∷ pos 1 ∷ pos 1 ∷ pos 1 ∷ pos 1 ∷ pos 7 ∷ pos 127 ∷
    pos 127 ∷ pos 255 ∷ pos 1 ∷ pos 32767 ∷ pos 32767 ∷ pos 65535 ∷ pos 2147483647 ∷ pos 0 ∷ pos 1 ∷
    pos 0 ∷ [])
    ∷ []

abbrev pub int_negations : List (ℤ × ℤ)
int_negations =
    (pos 0, pos 0) ∷ (pos 1, minus 1) ∷ (minus 1, pos 1) ∷ (pos 2, minus 2) ∷ (minus 2, pos 2) ∷
    (pos 7, minus 7) ∷ (minus 7, pos 7) ∷ (pos 127, minus 127) ∷ (pos 128, minus 128) ∷
    (pos 255, minus 255) ∷ (pos 256, minus 256) ∷ (pos 32767, minus 32767) ∷
    (pos 32768, minus 32768) ∷ (pos 65535, minus 65535) ∷ (pos 65536, minus 65536) ∷
    (minus 2147483648, minus 2147483648) ∷ (minus 2147483647, pos 2147483647) ∷
    (pos 2147483646, minus 2147483646) ∷ (pos 2147483647, minus 2147483647) ∷ []
