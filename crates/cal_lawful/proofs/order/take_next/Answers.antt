use Rattle.std.proofs.Common.{Global, Vec, ℕ, ◌≡◌, ◌∙◌, Some, ap, arith, false, get_or, length}
use Rattle.std.proofs.Common.{slice_get, subst, sym, true}
use Rattle.std.proofs.lemmas.Option.{slice_get_within}
use Rattle.cal_lawful.proofs.OrderLemmas.{counted-next, known-within, lists-long, not-next}
use Rattle.cal_lawful.proofs.order.take_next.Goals as goal

pub bounds-counts-thread : goal.bounds-counts-thread
bounds-counts-thread c =
    let within = known-within c.args.script.now c.args.op c.requires.known in
    let long = c.requires.long in
    omega (arith, within, long)

pub bounds-lists-thread : goal.bounds-lists-thread
bounds-lists-thread c =
    let within = known-within c.args.script.now c.args.op c.requires.known in
    let long = lists-long c.args.script.now c.args.lists.now c.requires.listed in
    omega (arith, within, long)

pub overflow_add-counts : goal.overflow_add-counts
overflow_add-counts c =
    let below = slice_get_within c.deref.result.now
    (get_or c.args.counts.now c.args.op.thread 0) c.args.op.line
    (c.is_at.ensures.0 c.if-is_at.true) in
    let long : length c.deref.result.now ≡ length c.index-lists-thread.result.items = ap length
    c.deref.ensures.value in
    omega (arith, below, long)

pub returns-then-is_at-clause-taken : goal.returns-then-is_at-clause-taken
returns-then-is_at-clause-taken c =
    let list = c.index-lists-thread.result in
    let within = known-within c.args.script.now c.args.op c.requires.known in
    let long = c.requires.long in
    let lists = lists-long c.args.script.now c.args.lists.now c.requires.listed in
    let place = get_or c.args.counts.now c.args.op.thread 0 in
    let next : slice_get (get_or c.args.lists.now c.args.op.thread list).items place
    ≡ Some c.args.op.line =
    subst (λ xs. slice_get xs place ≡ Some c.args.op.line) (c.deref.ensures.value
    ∙ ap (λ (v : Vec ℕ Global). v.items) c.index-lists-thread.is)
    (c.is_at.ensures.0 c.if-is_at.true) in
    λ history counted yes.
    counted-next c.args.script.now c.args.lists.now c.requires.listed history c.args.op
    c.args.counts.now counted list
    (omega (arith, within, long)) (omega (arith, within, lists)) next

pub returns-else-is_at-clause-not : goal.returns-else-is_at-clause-not
returns-else-is_at-clause-not c =
    let list = c.index-lists-thread.result in
    let within = known-within c.args.script.now c.args.op c.requires.known in
    let long = c.requires.long in
    let lists = lists-long c.args.script.now c.args.lists.now c.requires.listed in
    let place = get_or c.args.counts.now c.args.op.thread 0 in
    λ history counted no begun.
    not-next c.args.script.now c.args.lists.now c.requires.listed history c.args.op
    c.args.counts.now counted list
    (omega (arith, within, long)) (omega (arith, within, lists))
    (λ next.
    let here : slice_get c.deref.result.now place ≡ Some c.args.op.line =
    subst (λ xs. slice_get xs place ≡ Some c.args.op.line)
    (sym (c.deref.ensures.value ∙ ap (λ (v : Vec ℕ Global). v.items)
    c.index-lists-thread.is)) next in
    let no : false ≡ true = sym c.if-is_at.false ∙ c.is_at.ensures.1 here in
    cc)
    begun
