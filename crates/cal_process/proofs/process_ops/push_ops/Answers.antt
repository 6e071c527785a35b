use Rattle.std.proofs.Common.{◌≡◌, ◌+◌, ◌<◌, ◌≤◌, length, ap, sym, subst, ◌∙◌}
use Rattle.std.proofs.Common.{arith, ⊎_elim}
use Rattle.std.specs.Prelude.{Some, option_to_list}
use Rattle.std.specs.List.{All, Contains}
use Rattle.std.proofs.lemmas.Bool.{cases_lt}
use Rattle.std.proofs.lemmas.List.Elements.{Contains-append_left}
use Rattle.cal_process.proofs.ScriptLemmas.{All-option, Contains-option, line-there, line-within}
use Rattle.cal_process.proofs.ScriptLemmas.{one-op, op-is}
use Rattle.cal_process.specs.Operations.{IsOpOf, op_of_line}
use Rattle.cal_run.specs.Lines.{line_at}
use Rattle.cal_words.specs.declared.op.OpRec.{OpRec}
use Rattle.cal_process.proofs.process_ops.push_ops.Goals as goal

pub loop-place-init : goal.loop-place-init
loop-place-init c = record {
  ops = λ all. all;
  more = λ op is. is;
  all = λ number x op low at is.
      absurd (omega (arith, low, (line-within c.args.script.now c.args.thread number x at).0));
}

pub loop-place-preserved : goal.loop-place-preserved
loop-place-preserved c =
    let script = c.args.script.now in
    let thread = c.args.thread in
    let i = c.loop-place.place in
    let old = c.loop-place.invariant in
    let o = c.op_of_line-op.result in
    let l = c.line_in-line.result in
    let there : line_at script thread (i + 1) ≡ Some l = line-there script thread i
    c.args.lines.now l c.requires.lines (omega arith) (c.line_in-line.ensures l) in
    let new = c.in_ok-push_op.ensures in
    let left : (op : OpRec) → Contains c.loop-place.ops op → Contains c.push_op.new.ops op =
    λ op has. subst (λ xs. Contains xs op) (sym new)
    (Contains-append_left c.loop-place.ops (option_to_list o) op has) in
    record {
      ops = λ all. subst (All (IsOpOf script)) (sym new)
          (All-option (IsOpOf script) c.loop-place.ops o
          (λ op is. op-is script thread (i + 1) l op there (sym c.op_of_line-op.ensures ∙ is))
          (old.ops all));
      more = λ op has. left op (old.more op has);
      all = λ number x op low at is. ⊎_elim
          (λ (less : number < i + 1). left op (old.all number x op (omega (arith, less)) at is))
          (λ (more : i + 1 ≤ number).
          let e : number ≡ i + 1 = omega (arith, low, more) in
          subst (λ xs. Contains xs op) (sym new)
          (Contains-option c.loop-place.ops o op (c.op_of_line-op.ensures
          ∙ one-op script thread (i + 1) x l op
          (subst (λ n. line_at script thread n ≡ Some x) e at) there
          (subst (λ n. op_of_line script thread n x ≡ Some op) e is))))
          (cases_lt number (i + 1));
    }

pub returns-clause-all : goal.returns-clause-all
returns-clause-all c number l op at is =
    let script = c.args.script.now in
    let w = line-within script c.args.thread number l at in
    let same = ap length c.requires.lines in
    c.loop-place.invariant.all number l op (omega (arith, w.1, same)) at is
