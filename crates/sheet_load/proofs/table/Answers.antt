-- A table, byte by byte.
use Rattle.std.proofs.Common.{ℕ, rules, arith}
use Rattle.bits.proofs.Places.{as_bytes}
use Rattle.sheet.specs.Sheet.{entries}
use Rattle.sheet.specs.Reads.{part_no}
use Rattle.sheet_rules.specs.Tables.{raw_in}
use Rattle.sheet_load.proofs.Made.{made}
use Rattle.sheet_load.proofs.table.Goals as goal

pub returns : goal.returns
returns c =
    let a = c.args in
    let cell : ℕ → ℕ = λ (i : ℕ). raw_in a.s.now (part_no a.part) i (entries a.s.now) in
    let m = c.from_fn.ensures.items in
    as_bytes c.from_fn.result cell m.long (λ i h. made _ cell _ (λ i r f' k. search rules) c.from_fn.result 0 256 m.each i (omega arith) (omega arith))
