use Rattle.std.proofs.Common.{◌≡◌, ◌++◌, length, take, ◌-◌}
use Rattle.line_forms.specs.Hex.{hex_of}
use Rattle.text_pieces.proofs.Text.put_hex.Given as goal

-- the digits that are still to come end those that are there
abbrev pub invariant-loop-i : goal.invariant-loop-i
invariant-loop-i g l =
    record {
      so_far : take l.i l.digits ++ hex_of (l.i-end - l.i) l.v ≡ hex_of l.i-end l.v;
      long : length l.digits ≡ l.i-end;
    }
