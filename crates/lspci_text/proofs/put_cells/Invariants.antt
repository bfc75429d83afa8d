use Rattle.std.proofs.Common.{◌≡◌, ◌++◌, ◌+◌, ◌*◌, length, ◌-◌}
use Rattle.lspci_text.specs.Dump.{join_from, cell_text}
use Rattle.lspci_text.proofs.put_cells.Given as goal

-- the cells that are still to come end what is put
abbrev pub invariant-loop-i : goal.invariant-loop-i
invariant-loop-i g l =
    record {
      put : l.out ++ join_from (l.at + 16 - l.i) (cell_text l.b) l.i ≡ l.fn.out ++ join_from 16 (cell_text l.b) l.at;
      long : length l.out + 3 * l.at ≡ length l.fn.out + 3 * l.i;
    }
