use Rattle.std.proofs.Common.{◌≤◌, arith, subst, sym}
use Rattle.cal_words.specs.Shapes.{IsShape}
use Rattle.cal_script.proofs.ShapeLemmas.{history_is_shape, most-small, slots-small}
use Rattle.cal_script.specs.Shapes.{history_layout}
use Rattle.cal_script.proofs.shapes.history_shape.Goals as goal

pub overflow_mul-result : goal.overflow_mul-result
overflow_mul-result c =
    let threads : c.len-threads.result ≤ 64 = omega (arith, c.requires.few_threads, c.len-threads.ensures) in
    let most : c.most_process_lines-most.result ≤ 65536 =
    omega (arith, most-small c.args.script.now c.requires, c.most_process_lines-most.ensures) in
    omega (arith, slots-small c.len-threads.result c.most_process_lines-most.result threads most)

pub overflow_add-result-2 : goal.overflow_add-result-2
overflow_add-result-2 c =
    let threads : c.len-threads.result ≤ 64 = omega (arith, c.requires.few_threads, c.len-threads.ensures) in
    let most : c.most_process_lines-most.result ≤ 65536 =
    omega (arith, most-small c.args.script.now c.requires, c.most_process_lines-most.ensures) in
    omega (arith, slots-small c.len-threads.result c.most_process_lines-most.result threads most)

pub overflow_mul-result-2 : goal.overflow_mul-result-2
overflow_mul-result-2 c =
    omega (arith, most-small c.args.script.now c.requires, c.most_process_lines-most.ensures)

pub returns-clause-is_shape : goal.returns-clause-is_shape
returns-clause-is_shape c =
    let threads : c.len-threads.result ≤ 64 = omega (arith, c.requires.few_threads, c.len-threads.ensures) in
    let most : c.most_process_lines-most.result ≤ 65536 =
    omega (arith, most-small c.args.script.now c.requires, c.most_process_lines-most.ensures) in
    history_is_shape c.len-threads.result c.most_process_lines-most.result threads most
