use Rattle.std.proofs.Common.{◌≡◌, true, sym, ◌∙◌}
use Rattle.cal_run.specs.Lines.{is_process_line}
use Rattle.cal_lawful.proofs.seen.is_seen_own.Goals as goal

pub returns-else-not-is_process_line : goal.returns-else-not-is_process_line
returns-else-not-is_process_line c = λ state.
    let shared : c.is_process_line.result ≡ true = cc in
    let is : is_process_line c.args.script.now c.args.line ≡ true =
    sym c.is_process_line.ensures ∙ shared in
    ((λ h _. (c.sees_own.ensures state).0 h), (λ own. (c.sees_own.ensures state).1 (own is)))
