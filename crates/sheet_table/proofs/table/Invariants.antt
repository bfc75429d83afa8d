use Rattle.std.proofs.Common.{◌≡◌, ◌++◌, ◌+◌, ◌*◌, ◌<◌, length, ◌-◌}
use Rattle.sheet_table.specs.Row.{rows_text, table_text}
use Rattle.sheet_table.proofs.table.Given as goal

-- the lines that are still to come end what is put
abbrev pub invariant-loop-k : goal.invariant-loop-k
invariant-loop-k g l =
    record {
      put : l.out ++ rows_text l.s l.k (l.k-end - l.k) ≡ l.fn.out ++ table_text l.s;
      long : length l.out ≡ length l.fn.out + 82 * l.k + 82;
      few : l.k-end < 256;
    }
