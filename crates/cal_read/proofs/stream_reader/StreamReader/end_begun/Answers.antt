use Rattle.std.proofs.Common.{◌≡◌, ℕ, List, [], ◌∷◌, ◌++◌, refl, sym, ap, ◌∙◌, subst}
use Rattle.cal_read.specs.Cuts.{ended_lines, joined}
use Rattle.cal_read.specs.Reading.{HasRead, IsRefusalOf, rows_before}
use Rattle.cal_read.specs.Standing.{TakesUpTo}
use Rattle.cal_read.proofs.ReadLemmas.{read_before, read_same, rows_until_begun, with_begun}
use Rattle.cal_read.proofs.WholeLemmas.{end_passes}
use Rattle.cal_read.proofs.stream_reader.StreamReader.end_begun.Goals as goal

whole_line : (lines : List (List ℕ)) (line begun bytes : List ℕ) → line ≡ begun → (joined lines ++ begun) ++ 10 ∷ [] ≡ bytes ++ 10 ∷ [] → (joined lines ++ line) ++ 10 ∷ [] ≡ bytes ++ 10 ∷ []
whole_line lines line begun bytes same is = ap (λ l. (joined lines ++ l) ++ 10 ∷ []) same ∙ is

pub read_line-requires-clause-read : goal.read_line-requires-clause-read
read_line-requires-clause-read g c = (
  joined c.requires.1.lines,
  read_before c.args.self.now c.args.context.now c.requires.0 c.requires.1 _ refl refl refl (ap (λ v. v.items) c.replace-line.ensures.after ∙ c.new.ensures.items),
)

pub returns-in_err-read_line-clause-fault : goal.returns-in_err-read_line-clause-fault
returns-in_err-read_line-clause-fault g c =
    let line = c.as_slice.ensures.value ∙ ap (λ v. v.items) c.replace-line.ensures.value in
    end_passes _ c.in_err-read_line.field-0.0 _ c.from_residual.ensures (λ bytes h.
    subst (λ b. IsRefusalOf (ended_lines b) c.in_err-read_line.field-0.0)
    (whole_line h.lines c.as_slice.result.now c.args.self.now.begun.items bytes line (with_begun c.args.self.now c.args.context.now bytes h))
    (c.in_err-read_line.ensures.fault (joined h.lines)
    (read_before c.args.self.now c.args.context.now bytes h _ refl refl refl (ap (λ v. v.items) c.replace-line.ensures.after ∙ c.new.ensures.items))))

pub returns-clause-read : goal.returns-clause-read
returns-clause-read g c = λ bytes h.
    let line = c.as_slice.ensures.value ∙ ap (λ v. v.items) c.replace-line.ensures.value in
    subst (HasRead _ c.read_line.new.context)
    (whole_line h.lines c.as_slice.result.now c.args.self.now.begun.items bytes line (with_begun c.args.self.now c.args.context.now bytes h))
    (read_same c.read_line.new.self c.read_line.new.context ((joined h.lines ++ c.as_slice.result.now) ++ 10 ∷ [])
    (c.in_ok-read_line.ensures.read (joined h.lines)
    (read_before c.args.self.now c.args.context.now bytes h _ refl refl refl (ap (λ v. v.items) c.replace-line.ensures.after ∙ c.new.ensures.items)))
    _ refl refl refl (c.clear.ensures.items ∙ sym c.in_ok-read_line.ensures.none))

pub returns-clause-taken : goal.returns-clause-taken
returns-clause-taken g c = λ bytes h.
    let line = c.as_slice.ensures.value ∙ ap (λ v. v.items) c.replace-line.ensures.value in
    let had = g.T.Taker.has_taken c.args.taker.now c.args.context.now in
    let has = g.T.Taker.has_taken c.read_line.new.taker c.read_line.new.context in
    subst (λ rs. TakesUpTo had has rs (rows_before (bytes ++ 10 ∷ []))) (rows_until_begun c.args.self.now c.args.context.now bytes h)
    (subst (λ b. TakesUpTo had has (rows_before (joined h.lines)) (rows_before b))
    (whole_line h.lines c.as_slice.result.now c.args.self.now.begun.items bytes line (with_begun c.args.self.now c.args.context.now bytes h))
    (c.in_ok-read_line.ensures.taken (joined h.lines)
    (read_before c.args.self.now c.args.context.now bytes h _ refl refl refl (ap (λ v. v.items) c.replace-line.ensures.after ∙ c.new.ensures.items))))
