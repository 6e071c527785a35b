use Rattle.std.proofs.Common.{◌≡◌, ◌+◌, List, [], ◌∷◌, ◌++◌, ℕ, length, take}
use Rattle.std.proofs.Common.{refl, sym, ap, ◌∙◌, subst, arith}
use Rattle.std.specs.Prelude.{All}
use Rattle.std.proofs.lemmas.List.{length_push, map-append, take_all, take_more}
use Rattle.std.proofs.lemmas.List.Elements.{All-push}
use Rattle.cal_names.specs.declared.record.NameSort.{NameSort}
use Rattle.cal_naming.proofs.Hiring.{numbers-push}
use Rattle.cal_naming.specs.Workers.{AreNumbered, IsFirst, IsReady, lines_of}
use Rattle.cal_naming.specs.declared.worker.Worker.{Worker}
use Rattle.cal_once.specs.declared.view.View.{View}
use Rattle.cal_script.specs.Reader.{AreNamed}
use Rattle.cal_value.specs.declared.attribute.Attribute.{Attribute}
use Rattle.cal_naming.proofs.hire.hire.Goals as goal

pub loop-lines-init : goal.loop-lines-init
loop-lines-init c =
    let fresh = c.requires.fresh in
    let none = c.in_ok-workers.ensures.items in
    let empty : length c.in_ok-workers.workers.items ≡ 0 = ap length none in
    record {
      first = record {
        at = c.requires.seat;
        number = ap (λ (v : View NameSort). v.number) fresh;
        published = ap (λ (v : View NameSort). v.published) fresh;
        others = ap (λ (v : View NameSort). length v.others) fresh;
      };
      many = empty;
      lines = ap lines_of none;
      ready = λ k d less. absurd (omega (arith, less, empty));
      numbers = λ k d less. absurd (omega (arith, less, empty));
    }

pub hire_one-requires-clause-first : goal.hire_one-requires-clause-first
hire_one-requires-clause-first c =
    let was = c.loop-lines.invariant.first in
    record { at = was.at; number = was.number; published = was.published; others = refl }

pub hire_one-requires-clause-left : goal.hire_one-requires-clause-left
hire_one-requires-clause-left c =
    omega (arith, c.loop-lines.invariant.first.others, c.requires.arenas)

pub hire_one-requires-clause-named : goal.hire_one-requires-clause-named
hire_one-requires-clause-named c =
    subst (λ (ls : List Attribute). AreNamed ls)
    (sym (c.as_slice.ensures ∙ c.lines-item.is))
    (c.requires.named c.loop-lines.lines-index c.lines-item.result (omega arith))

pub loop-lines-preserved : goal.loop-lines-preserved
loop-lines-preserved c =
    let was = c.loop-lines.invariant in
    let i = c.loop-lines.lines-index in
    let threads = c.args.threads.now in
    let ws = c.loop-lines.workers.items in
    let worker = c.in_ok-worker.worker in
    let hired = c.in_ok-worker.ensures in
    let items = c.in_ok-push.ensures.items in
    let line_is = hired.lines ∙ c.as_slice.ensures in
    let item = c.lines-item.result in
    record {
      first = record {
        at = hired.first.at;
        number = hired.first.number;
        published = hired.first.published;
        others = hired.first.others ∙ ap (λ n. n + 1) was.first.others;
      };
      many = ap length items ∙ length_push ws worker ∙ ap (λ n. n + 1) was.many;
      lines = ap lines_of items ∙ map-append (λ (w : Worker). w.lines.now) ws (worker ∷ [])
          ∙ (λ j. was.lines j ++ line_is j ∷ [])
          ∙ ap (λ (ls : List Attribute). take i threads ++ ls ∷ []) c.lines-item.is
          ∙ sym (take_more threads i item (omega arith));
      ready = subst (λ (xs : List Worker). All (IsReady c.args.names.now) xs) (sym items)
          (All-push (IsReady c.args.names.now) ws worker was.ready hired.ready);
      numbers = subst (λ (xs : List Worker). AreNumbered xs) (sym items)
          (numbers-push ws worker was.numbers
          (hired.number ∙ ap (λ n. n + 1) (was.first.others ∙ sym was.many)));
    }

pub returns-clause-first : goal.returns-clause-first
returns-clause-first c =
    let all : c.loop-lines.lines-index ≡ length c.args.threads.now = omega arith in
    subst (λ (n : ℕ). IsFirst c.args.names.now c.loop-lines.first n) all
    c.loop-lines.invariant.first

pub returns-clause-lines : goal.returns-clause-lines
returns-clause-lines c = c.loop-lines.invariant.lines
    ∙ take_all c.loop-lines.lines-index c.args.threads.now (omega arith)
