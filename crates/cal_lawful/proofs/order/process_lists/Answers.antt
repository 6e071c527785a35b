use Rattle.std.proofs.Common.{◌≡◌, ◌+◌, ◌<◌, ◌∙◌, List, ap, arith, get_or, length, subst, sym, take}
use Rattle.cal_lawful.proofs.OrderLemmas.{lines-within, listed-more}
use Rattle.cal_lawful.specs.Checking.{AreListed}
use Rattle.cal_run.specs.Lawful.{process_lines}
use Rattle.cal_script.specs.declared.script.Line.{Line}
use Rattle.cal_lawful.proofs.order.process_lists.Goals as goal

pub process_list-requires : goal.process_list-requires
process_list-requires c =
    let script = c.args.script.now in
    let i = c.loop-thread.thread in
    let ls : List Line = c.index-threads-thread.result in
    let is : ls ≡ get_or script.threads i ls = c.index-threads-thread.is
    ∙ (λ j. get_or (c.as_slice-threads.ensures j) i ls) in
    let below : i < length script.threads = subst (λ (ts : List (List Line)). i < length ts)
    c.as_slice-threads.ensures c.loop-thread-test.true in
    let few = lines-within script.threads i ls below is in
    let long : length c.as_slice.result.now ≡ length ls = ap length c.as_slice.ensures in
    let most = c.requires.few_lines in
    omega (arith, few, long, most)

pub loop-thread-preserved : goal.loop-thread-preserved
loop-thread-preserved c =
    let script = c.args.script.now in
    let i = c.loop-thread.thread in
    let ls : List Line = c.index-threads-thread.result in
    let is : ls ≡ get_or script.threads i ls = c.index-threads-thread.is
    ∙ (λ j. get_or (c.as_slice-threads.ensures j) i ls) in
    let below : i < length script.threads = subst (λ (ts : List (List Line)). i < length ts)
    c.as_slice-threads.ensures c.loop-thread-test.true in
    let list = c.in_ok-process_list.field-0 in
    let next : list.items ≡ process_lines script ls =
    c.in_ok-process_list.ensures ∙ ap (process_lines script) c.as_slice.ensures in
    subst (λ xs. AreListed script xs (take (i + 1) script.threads)) (sym c.in_ok-push.ensures.items)
    (listed-more script c.loop-thread.lists.items script.threads i ls list below is next
    c.loop-thread.invariant)
