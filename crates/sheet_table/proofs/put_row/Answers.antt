use Rattle.std.proofs.Common.{◌++◌, ◌∷◌, [], ◌+◌, ◌-◌, ◌∙◌, ap, arith, length}
use Rattle.std.proofs.lemmas.List.{length-append}
use Rattle.bits.specs.Places.{from}
use Rattle.sheet_table.specs.Row.{char_of}
use Rattle.sheet_table.proofs.Laws.{next_column}
use Rattle.sheet_table.proofs.put_row.Goals as goal

pub loop-c-preserved : goal.loop-c-preserved
loop-c-preserved g c =
    let f = char_of c.args.s.now c.args.k in
    record {
      put = ap (λ t. t ++ from (81 - (c.loop-c.c + 1)) f (c.loop-c.c + 1)) (c.push.ensures ∙ ap (λ x. c.loop-c.out ++ x ∷ []) c.character.ensures)
          ∙ next_column c.loop-c.out f 81 c.loop-c.c c.loop-c-test.true
          ∙ c.loop-c.invariant.put;
      long = omega (arith, ap length c.push.ensures, length-append c.loop-c.out (c.character.result ∷ []), c.loop-c.invariant.long);
    }
