use Rattle.std.proofs.Common.{◌≡◌, ◌++◌, ◌+◌, ◌*◌, length, ◌-◌}
use Rattle.lspci_text.specs.Dump.{join_from, row_text}
use Rattle.lspci_text.proofs.put_rows.Given as goal

-- the rows that are still to come end what is put
abbrev pub invariant-loop-j : goal.invariant-loop-j
invariant-loop-j g l =
    record {
      put : l.out ++ join_from (16 - l.j) (row_text l.b) l.j ≡ l.fn.out ++ join_from 16 (row_text l.b) 0;
      long : length l.out ≡ length l.fn.out + 52 * l.j;
    }
