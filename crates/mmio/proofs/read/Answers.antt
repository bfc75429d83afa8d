-- A guest read in the window that is refused.
use Rattle.std.proofs.lemmas.Result.{err_from_is_err_and}
use Rattle.mmio.proofs.Entry.{read_refused}
use Rattle.mmio.proofs.read.Goals as goal

pub returns-in_err-admitted : goal.returns-in_err-admitted
returns-in_err-admitted c = let p = err_from_is_err_and c.from_residual.result c.from_residual.ensures.1 in rw (p.1, p.2) (read_refused _ _ _ _ c.in_err-admitted.ensures)
