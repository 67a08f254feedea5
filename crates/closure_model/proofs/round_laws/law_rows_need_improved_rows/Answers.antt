-- What ends where a negative edge of the row begins was there before.
use Rattle.closure_model.proofs.RowsNeedRows.{law_rows_need_improved_rows as proof}
use Rattle.closure_model.proofs.round_laws.law_rows_need_improved_rows.Goals as goal

pub returns : goal.returns
returns c = proof
