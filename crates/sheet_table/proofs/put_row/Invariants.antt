use Rattle.std.proofs.Common.{◌≡◌, ◌++◌, ◌+◌, length, ◌-◌}
use Rattle.bits.specs.Places.{from}
use Rattle.sheet_table.specs.Row.{char_of}
use Rattle.sheet_table.proofs.put_row.Given as goal

-- the columns that are still to come end what is put
abbrev pub invariant-loop-c : goal.invariant-loop-c
invariant-loop-c g l =
    record {
      put : l.out ++ from (81 - l.c) (char_of l.s l.k) l.c ≡ l.fn.out ++ from 81 (char_of l.s l.k) 0;
      long : length l.out ≡ length l.fn.out + l.c;
    }
