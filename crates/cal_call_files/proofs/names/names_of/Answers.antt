use Rattle.std.proofs.Common.{List, ℕ, Some, ap, ◌∙◌}
use Rattle.cal_call_files.specs.Words.{in_name}
use Rattle.cal_call_files.proofs.Naming.{named, unnamed}
use Rattle.cal_call_files.proofs.names.names_of.Goals as goal
use Rattle.cal_call_files.proofs.names.names_of.Goals.{in-Some+in_ok-name+in_ok-push, in_default}

pub loop-word-preserved : goal.loop-word-preserved
loop-word-preserved c =
    let words = c.args.words.now in
    let place = c.loop-word.word-index in
    let word = c.word-item.result in
    let before = c.loop-word.names.items in
    let bytes = ap in_name c.as_str.ensures.value in
    elim c.match-in_name.branch [
      | in-Some+in_ok-name+in_ok-push w ↦
          rw w.names-is
          (named words place word before c.loop-word-test.true c.word-item.is c.loop-word.invariant
          w.push.new.self.items w.in_ok-name.name w.in_ok-push.ensures.items
          (ap (λ (name : List ℕ). Some name) w.in_ok-name.ensures ∙ w.in-Some.ensures ∙ bytes))
      | in_default w ↦
          rw w.names-is
          (unnamed words place word before c.loop-word-test.true c.word-item.is c.loop-word.invariant
          (w.in_default.ensures ∙ bytes))
    ]
