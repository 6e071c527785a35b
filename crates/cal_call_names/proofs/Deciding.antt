-- The bytes of an input decide what is answered: they have one first fault, or mean declarations.
use Rattle.std.proofs.Common.{◌≡◌, ◌↔◌, ℕ, ◌<◌, ◌≤◌, List, length, Option, Some, None, Result, Ok}
use Rattle.std.proofs.Common.{Err, refl, subst, ap, arith}
use Rattle.std.proofs.lemmas.Option.{IfSome_then}
use Rattle.cal_base.specs.Change.{Change, HasFailed}
use Rattle.cal_call.proofs.Deciding.{left_over, of_the_left}
use Rattle.cal_call.specs.Causes.{input_limit}
use Rattle.cal_call.specs.declared.fault.Fault as faults
use Rattle.cal_call.specs.declared.fault.Fault.TheVariants as fault
use Rattle.cal_call.specs.declared.fault.InputKind as kinds
use Rattle.cal_call.specs.declared.fault.InputKind.TheVariants as kind
use Rattle.cal_declarations.specs.Reading.{HasFault, Means}
use Rattle.cal_naming.specs.declared.reply.NameReply.{NameReply}
use Rattle.cal_script.specs.declared.kind.ScriptKind.{ScriptKind}
use Rattle.cal_value.specs.declared.attribute.Attribute.{Attribute}
use Rattle.cal_call_names.specs.Answers.{Answers, IsFaultOf}
use Rattle.cal_call_names.specs.Deciding.{Agree, BytesDecide, Declare, IsDue}
use Rattle.cal_call_names.specs.Listing.{IsListed, refused_lines}
use Rattle.cal_call_names.proofs.Agreeing.{agreed_where_none, none_where_agreed}

-- bytes mean declarations exactly where they have no first fault, and have at most one meaning and
-- one first fault
pub record IsOneMeaning : Type 0 where
  pub said : (bytes : List ℕ) → (((threads : List (List Attribute)) × Means bytes threads)
      ↔ ((line : ℕ) (kind : ScriptKind) → ¬ HasFault bytes line kind))
  pub one_meaning : (bytes : List ℕ) (threads other : List (List Attribute))
      → Means bytes threads → Means bytes other → threads ≡ other
  pub one_fault : (bytes : List ℕ) (m n : ℕ) (kind other : ScriptKind)
      → HasFault bytes m kind → HasFault bytes n other → (m ≡ n) × (kind ≡ other)

module _ (law : IsOneMeaning) (bytes : List ℕ) where
  fault_and_meaning : (line : ℕ) (k : kinds.InputKind) (threads : List (List Attribute))
      → IsFaultOf bytes line k → Means bytes threads → ⊥
  fault_and_meaning line (kind.Script k) threads faulty means =
      (law.said bytes).0 (threads, means) line k faulty
  fault_and_meaning line (kind.Journal k) threads faulty means = faulty
  fault_and_meaning line (kind.Stream k) threads faulty means = faulty

  one_fault : (line other : ℕ) (k l : kinds.InputKind) → IsFaultOf bytes line k
      → IsFaultOf bytes other l → (line ≡ other) × (k ≡ l)
  one_fault line other (kind.Script k) (kind.Script l) faulty also =
      let one = law.one_fault bytes line other k l faulty also in (one.0, ap kind.Script one.1)
  one_fault line other (kind.Script k) (kind.Journal l) faulty also = absurd also
  one_fault line other (kind.Script k) (kind.Stream l) faulty also = absurd also
  one_fault line other (kind.Journal k) l faulty also = absurd faulty
  one_fault line other (kind.Stream k) l faulty also = absurd faulty

  module _ (output : Change) where
    -- too many bytes
    due_over : input_limit < length bytes → IsDue bytes output (Some fault.TooLong)
    due_over over = record {
      too_long = (λ _. over, λ _. refl);
      bad_input = λ line k. (λ is. absurd cc, λ both. absurd (omega (arith, both.0)));
      whole = λ sound. (λ is. absurd cc, λ both. absurd (omega (arith, both.0)));
      agreed = λ sound. (λ is. absurd cc, λ both. absurd (omega (arith, both.0)));
    }

    -- a first fault
    due_fault : (line : ℕ) (k : kinds.InputKind) → length bytes ≤ input_limit
        → IsFaultOf bytes line k → IsDue bytes output (Some (fault.BadInput line k))
    due_fault line k within faulty = record {
      too_long = (λ is. absurd cc, λ over. absurd (omega arith));
      bad_input = λ other l. (
        λ is.
            let line_is : line ≡ other = cc in
            let kind_is : k ≡ l = cc in (within, rw (← line_is, ← kind_is) faulty),
        λ both.
            let one = one_fault line other k l faulty both.1 in rw (one.0, one.1) refl,
      );
      whole = λ sound. (
        λ is. absurd cc,
        λ both. absurd (fault_and_meaning line k both.1 faulty both.2),
      );
      agreed = λ sound. (
        λ is. absurd cc,
        λ both. absurd (fault_and_meaning line k both.1 faulty both.2),
      );
    }

    module _ (within : length bytes ≤ input_limit) (threads : List (List Attribute))
        (means : Means bytes threads) (rs : List (List NameReply)) (text : List ℕ)
        (listed : IsListed threads rs text) where
      no_fault : (line : ℕ) (k : kinds.InputKind)
          → (length bytes ≤ input_limit) × IsFaultOf bytes line k → ⊥
      no_fault line k both = fault_and_meaning line k threads both.1 means

      none_refused : Declare bytes Agree → refused_lines rs ≡ 0
      none_refused both =
          none_where_agreed threads listed.kept rs listed.naming
          (subst Agree (law.one_meaning bytes both.1 threads both.2 means) both.3)

      -- no declaration was refused
      due_done : refused_lines rs ≡ 0 → IsDue bytes output None
      due_done none = record {
        too_long = (λ is. absurd cc, λ over. absurd (omega arith));
        bad_input = λ line k. (λ is. absurd cc, λ both. absurd (no_fault line k both));
        whole = λ sound. (λ _. (within, threads, means, tt), λ _. refl);
        agreed = λ sound. (
          λ _. (
            within,
            threads,
            means,
            agreed_where_none threads listed.kept rs listed.naming none,
          ),
          λ _. refl,
        );
      }

      -- some were
      due_refused : (lines : ℕ) → lines ≡ refused_lines rs → 0 < lines
          → IsDue bytes output (Some (fault.LinesRefused lines))
      due_refused lines counted some = record {
        too_long = (λ is. absurd cc, λ over. absurd (omega arith));
        bad_input = λ line k. (λ is. absurd cc, λ both. absurd (no_fault line k both));
        whole = λ sound. (λ _. (within, threads, means, tt), λ _. refl);
        agreed = λ sound. (
          λ is. absurd cc,
          λ both. absurd (omega (arith, none_refused both, counted, some)),
        );
      }

      -- the text wasn't written whole
      due_failed : HasFailed output → IsDue bytes output (Some fault.WriteFault)
      due_failed failed = record {
        too_long = (λ is. absurd cc, λ over. absurd (omega arith));
        bad_input = λ line k. (λ is. absurd cc, λ both. absurd (no_fault line k both));
        whole = λ sound. absurd (sound failed);
        agreed = λ sound. absurd (sound failed);
      }

-- what is answered is what the bytes call for
pub answers_decide : IsOneMeaning → (asked : Result (Unit {0}) ℕ) (input output : Change)
    (rs : List (List NameReply)) (answer : Option faults.Fault)
    → Answers asked input output rs answer → BytesDecide asked input output answer
answers_decide law (Err place) input output rs answer given = tt
answers_decide law (Ok one) input output rs None given = λ sound memory.
    of_the_left input _ _ given.0 (λ bytes within made. due_done law bytes output within
    made.1.0 made.1.1 rs made.0 made.1.2 given.1)
answers_decide law (Ok one) input output rs (Some (fault.LinesRefused lines)) given =
    λ sound memory. of_the_left input _ _ given.0 (λ bytes within made. due_refused law bytes output
    within made.1.0 made.1.1 rs made.0 made.1.2 lines given.1 given.2)
answers_decide law (Ok one) input output rs (Some (fault.Usage word)) given = absurd given
answers_decide law (Ok one) input output rs (Some (fault.BadInput line k)) given =
    λ sound memory. of_the_left input _ _ given (λ bytes within faulty.
    due_fault law bytes output line k within faulty)
answers_decide law (Ok one) input output rs (Some (fault.BadQuery place k)) given = absurd given
answers_decide law (Ok one) input output rs (Some fault.ReadFault) given =
    λ sound memory. absurd (sound given.0)
answers_decide law (Ok one) input output rs (Some fault.WriteFault) given =
    λ sound memory. of_the_left input _ _ given.1 (λ bytes within made. due_failed law bytes output
    within made.1.0 made.1.1 rs made.0 made.1.2 given.0)
answers_decide law (Ok one) input output rs (Some fault.OutOfMemory) given =
    λ sound memory. absurd (memory refl)
answers_decide law (Ok one) input output rs (Some fault.TooLong) given = λ sound memory.
    IfSome_then input.old (left_over input_limit input.old input.new given)
    (λ left over. due_over law left output over)
