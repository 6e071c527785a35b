use Rattle.std.proofs.Common.{◌≡◌, ℕ, ◌+◌, ◌∷◌, ◌++◌, drop, take, refl, sym, ap, ◌∙◌, subst}
use Rattle.std.proofs.lemmas.List.{drop_more, take-append-drop}
use Rattle.cal_read.specs.Lines.{bytes_in}
use Rattle.cal_read.specs.Reading.{ReadsOn}
use Rattle.cal_read.specs.declared.stream_reader.StreamReader.{StreamReader}
use Rattle.cal_read.proofs.ListLemmas.{none_there}
use Rattle.cal_read.proofs.ReadLemmas.{read_same}
use Rattle.cal_read.proofs.ReadOnLemmas.{ReadsOn-line, ReadsOn-none}
use Rattle.cal_read.proofs.stream_reader.StreamReader.end_row.Goals as goal

pub returns-then-not-is_empty-clause-read : goal.returns-then-not-is_empty-clause-read
returns-then-not-is_empty-clause-read g c =
    let had = g.T.Taker.has_taken c.args.taker.now c.args.context.now in
    ReadsOn-none had had c.args.self.now _ c.args.context.now (bytes_in c.args.all) (λ bytes h. read_same c.args.self.now c.args.context.now bytes h _ refl refl refl refl) (λ rs h. h)

pub returns-in_default-2-clause-read : goal.returns-in_default-2-clause-read
returns-in_default-2-clause-read g c =
    let t = c.args.context.now in
    let had = g.T.Taker.has_taken c.args.taker.now t in
    let has = g.T.Taker.has_taken c.read_front.new.taker t in
    let stays = rw c.in_default-2.is at c.in_ok-end.ensures.read in
    ReadsOn-none had has c.args.self.now _ t (bytes_in c.args.all)
    (λ bytes h. record { sound = h.sound; lines = h.lines; cut = h.cut; counted = h.counted; stream = h.stream; made = h.made; stands = stays.stands h.stream h.stands })
    (λ rs h. stays.taken rs h)

pub returns-clause-read : goal.returns-clause-read
returns-clause-read g c =
    let t = c.args.context.now in
    let had = g.T.Taker.has_taken c.args.taker.now t in
    let has = g.T.Taker.has_taken c.read_front.new.taker t in
    let old = c.args.self.now in
    let new : StreamReader = record { alloc = old.alloc; splitter = old.splitter; stream = c.read_front.new.self; begun = old.begun; lines = old.lines + 1; refused = old.refused } in
    let text = c.in-Text.text.now in
    let end = c.in-Some.end in
    let line = take end text in
    let rest = c.cut.result.1.now in
    let front = rw c.in-Some.is at c.in_ok-end.ensures.read in
    let none = none_there old.begun.items c.as_slice.result.now c.as_slice.ensures.value (sym c.if-not-is_empty.false ∙ c.is_empty.ensures) in
    let whole : bytes_in c.args.all ≡ text = ap bytes_in c.in-Text.is in
    let parts : line ++ 10 ∷ rest ≡ bytes_in c.args.all =
    ap (λ l. line ++ 10 ∷ l) c.cut.ensures.rest ∙ ap (λ (b : ℕ). line ++ b ∷ drop (end + 1) text) (sym front.newline)
    ∙ ap (λ l. line ++ l) (sym (drop_more text end 0 front.within)) ∙ take-append-drop end text ∙ sym whole
    in
    subst (λ l. ReadsOn had has old new t l rest) parts (ReadsOn-line had has old new t line rest none front.line refl refl refl front.read)
