use Rattle.std.proofs.Common.{◌≡◌, ◌≢◌, ℕ, ◌+◌, ◌≤◌, List, length, sym, ◌∙◌, subst, inr, arith, length-take}
use Rattle.cal_words.proofs.Bytes.{length-text_words}
use Rattle.cal_once.specs.Seats.{view}
use Rattle.cal_once.specs.Views.{Holds}
use Rattle.cal_once.proofs.Learning.{knows_later}
use Rattle.cal_names.specs.Answers.{with_content}
use Rattle.cal_names.specs.Declarations.{Declaration, IsDeclaration, IsName, name_words}
use Rattle.cal_names.specs.Kept.{HasOtherName, plan_of}
use Rattle.cal_names.specs.declared.read.Content.{Content}
use Rattle.cal_names.proofs.Reading.{if_none, if_some, whole_of}
use Rattle.cal_names.proofs.names.Names.content_of.Goals as goal
use Rattle.cal_names.proofs.names.Names.content_of.Goals.{After-front, After-size}

-- there is room in the buffer
fits : (c : After-size) → c.len-long.result ≤ 29
fits c =
    let long = c.len-long.ensures in
    let short = c.requires.long.short in
    omega (arith, length-text_words c.args.rec.now.name.now)

pub slice_bounds-buffer-end : goal.slice_bounds-buffer-end
slice_bounds-buffer-end c = fits (goal.at.slice_bounds-buffer-end c).After-size

pub slice_bounds-words-end : goal.slice_bounds-words-end
slice_bounds-words-end c =
    let room = fits (goal.at.slice_bounds-words-end c).After-size in
    sym (length-take (c.len-long.result) _ ∙ omega arith)

pub front-requires-clause-known : goal.front-requires-clause-known
front-requires-clause-known c =
    (c.requires.place, knows_later (view c.args.seat.now) (view c.size.new.seat) c.args.place c.size.ensures.learns.more c.requires.known)

-- as many words were read as the record has
read_long : (c : After-front) → length c.front.new.words ≡ c.len-long.result
read_long c =
    let long = c.len-long.ensures in
    let short = c.requires.long.short in
    c.front.ensures.same ∙ length-take (c.len-long.result) _ ∙ omega (arith, length-text_words c.args.rec.now.name.now)

was_read : (c : After-front) → IsName c.front.new.words × Holds (view c.front.new.seat) c.args.place c.front.new.words
was_read c =
    let size = c.size.ensures.size in
    let long = read_long c in
    let same : c.size.result ≡ c.len-long.result = c.if-size-long.false in
    whole_of (plan_of c.args.self.now) (view c.front.new.seat) c.front.ensures.sound c.args.place size.0 c.front.new.words c.requires.place
    (c.front.ensures.learns.more (c.args.place + 1) size.0 size.1) (sym size.2 ∙ same ∙ sym long) c.front.ensures.front

pub read_content-requires-clause-words : goal.read_content-requires-clause-words
read_content-requires-clause-words c = (was_read (goal.at.read_content-requires-clause-words c).After-front).0

pub read_content-requires-clause-size : goal.read_content-requires-clause-size
read_content-requires-clause-size c =
    let long = read_long (goal.at.read_content-requires-clause-size c).After-front in
    let words = c.len-long.ensures in
    omega arith

pub returns-clause-here : goal.returns-clause-here
returns-clause-here c =
    let holds = (was_read (goal.at.returns-clause-here c).After-front).1 in
    if_some c.read_content.result
    (λ (content : Content). c.front.new.words ≡ name_words (with_content c.args.rec.now.name.now content))
    (λ (content : Content). Holds (view c.front.new.seat) c.args.place (name_words (with_content c.args.rec.now.name.now content)))
    (λ content same. subst (λ (ws : List ℕ). Holds (view c.front.new.seat) c.args.place ws) same holds)
    c.read_content.ensures.here

pub returns-clause-other : goal.returns-clause-other
returns-clause-other c =
    let read = was_read (goal.at.returns-clause-other c).After-front in
    let size = c.size.ensures.size in
    let d : Declaration = read.0.declaration in
    if_none c.read_content.result
    ((d : Declaration) → IsDeclaration d → c.front.new.words ≡ name_words d → d.name ≢ c.args.rec.now.name.now)
    (HasOtherName (view c.front.new.seat) c.args.rec.now.name.now c.args.place)
    (λ other. record {
      slot = size.0;
      known = c.front.ensures.learns.more (c.args.place + 1) size.0 size.1;
      differs = inr (d, read.0.is_declaration, subst (λ (ws : List ℕ). Holds (view c.front.new.seat) c.args.place ws) read.0.spelled read.1, other d read.0.is_declaration read.0.spelled);
    })
    c.read_content.ensures.other
