-- The threads of a lawful journal see in order.
use Rattle.std.proofs.Common.{ℕ, suc, ◌+◌, List, [], ◌∷◌, ◌++◌, subst, arith}
use Rattle.std.specs.Prelude.{zip, flat_map}
use Rattle.std.specs.List.{All, enumerate_from}
use Rattle.std.proofs.lemmas.List.{get_or_append_left, length-append}
use Rattle.std.proofs.lemmas.List.Elements.{All-cons, All-nil}
use Rattle.cal_run.specs.Lawful.{Lawful, NotedLine, SeenOwn, SeenRises, SeenWithin, noted_from}
use Rattle.cal_run.specs.Lawful.{noted_of}
use Rattle.cal_run.specs.Seeing.{CanBeRead, MaySee, SeesInOrder}
use Rattle.cal_run.specs.Steps.{ThreadState, at_start, state_after}
use Rattle.cal_script.specs.declared.journal.Journal.{Journal}
use Rattle.cal_script.specs.declared.journal.LineNote.{LineNote}
use Rattle.cal_script.specs.declared.journal.ThreadNote.{ThreadNote}
use Rattle.cal_script.specs.declared.script.Line.{Line}
use Rattle.cal_script.specs.declared.script.Script.{Script}

module _ {A : Type 0} (P : A → Type 0) where
  pub all-rest : (x : A) (xs : List A) → All P (x ∷ xs) → All P xs
  all-rest x xs all k d l = all (suc k) d (omega (arith, l))

  pub all-front : (xs ys : List A) → All P (xs ++ ys) → All P xs
  all-front xs ys all k d l =
      subst P (get_or_append_left xs ys d k l) (all k d (omega (arith, l, length-append xs ys)))

  pub all-back : (xs ys : List A) → All P (xs ++ ys) → All P ys
  all-back [] ys all = all
  all-back (x ∷ xs) ys all = all-back xs ys (all-rest x (xs ++ ys) all)

module _ (script : Script) (journal : Journal) where
  abbrev Rule : NotedLine → Type 0
  Rule n = SeenRises script journal n × SeenWithin script journal n × SeenOwn script journal n

  order_from : (thread number before : ℕ) (state : ThreadState) (ls : List (Line × LineNote))
      → All Rule (noted_from script journal.ops thread number before state ls)
      → SeesInOrder script journal.ops before ls
  order_from thread number before state [] all = tt
  order_from thread number before state (l ∷ ls) all =
      let n : NotedLine = record {
        thread = thread;
        number = number;
        line = l.0;
        note = l.1;
        before = before;
        state = state;
      } in
      let here : Rule n = all 0 n (omega arith) in
      let may : MaySee script journal.ops before l.0 l.1 = record {
        rises = here.0;
        own = λ is. (here.2 is).before;
        within = here.1;
      } in
      let rest = order_from thread (number + 1) l.1.seen
      (state_after script journal.ops l.0 l.1 state) ls
      (all-rest Rule n (noted_from script journal.ops thread (number + 1) l.1.seen
      (state_after script journal.ops l.0 l.1 state) ls) all) in
      (may, rest)

  abbrev InOrder : List Line × ThreadNote → Type 0
  InOrder t = SeesInOrder script journal.ops 0 (zip t.0 t.1.lines)

  pub threads_in_order : (k : ℕ) (ts : List (List Line × ThreadNote))
      → All Rule (flat_map (noted_of script journal.ops) (enumerate_from k ts)) → All InOrder ts
  threads_in_order k [] all = All-nil InOrder
  threads_in_order k (t ∷ ts) all =
      let one : List NotedLine = noted_of script journal.ops (k, t) in
      let more : List NotedLine =
      flat_map (noted_of script journal.ops) (enumerate_from (k + 1) ts) in
      All-cons InOrder t ts
      (order_from k 1 0 at_start (zip t.0 t.1.lines) (all-front Rule one more all))
      (threads_in_order (k + 1) ts (all-back Rule one more all))

  pub lawful-read : Lawful script journal → CanBeRead script journal
  lawful-read is = record {
    shape = is.shape;
    order = threads_in_order 0 (zip script.threads journal.threads)
        (λ k d l. (is.rises k d l, is.within k d l, is.own k d l));
  }
