use Rattle.std.proofs.Common.{ℕ, List, [], ◌∷◌, ◌++◌, sym, ap, ◌∙◌, subst, append_assoc, append-nil, refl}
use Rattle.std.proofs.lemmas.Result.{on_ok_weaker}
use Rattle.cal_context.proofs.CallerLemmas.{Grows-refl, Grows-trans}
use Rattle.cal_read.specs.Cuts.{ended_lines}
use Rattle.cal_read.specs.Lines.{bytes_in}
use Rattle.cal_read.specs.Reading.{HasRead, IsRefusalOf, TakesBytes, rows_before}
use Rattle.cal_read.specs.Standing.{TakesUpTo}
use Rattle.cal_read.proofs.ReadLemmas.{rows_begun, refusal_more, TakesUpTo-none, TakesUpTo-trans, turns, piece_turn, whole_turn}
use Rattle.cal_read.proofs.WholeLemmas.{end_passes}
use Rattle.cal_read.proofs.stream_reader.StreamReader.feed_lines.Goals as goal

pub loop-line-init : goal.loop-line-init
loop-line-init g c =
    let had = g.T.Taker.has_taken c.args.taker.now c.args.context.now in (
      Grows-refl c.args.context.now,
      (
        [],
        sym c.of-rest.ensures,
        (λ bytes h. subst (HasRead c.args.self.now c.args.context.now) (sym (append-nil bytes)) h),
        (λ bytes h. TakesUpTo-none had had (rows_before bytes) (rows_before (bytes ++ [])) (ap rows_before (append-nil bytes)) (λ rs k. k)),
        refl,
      ),
    )

pub begin-requires : goal.begin-requires
begin-requires g c = rw c.bytes.ensures c.in_default.ensures.none

pub end_line-requires-clause-read : goal.end_line-requires-clause-read
end_line-requires-clause-read g c =
    let turn = c.loop-line.invariant.1 in
    (c.requires.0 ++ turn.0, turn.2 c.requires.0 c.requires.1)

pub returns-in_err-end_line-clause-fault : goal.returns-in_err-end_line-clause-fault
returns-in_err-end_line-clause-fault g c =
    let turn = c.loop-line.invariant.1 in
    end_passes _ c.in_err-end_line.field-0.0 _ c.from_residual.ensures (λ bytes h.
    subst (λ b. IsRefusalOf (ended_lines b) c.in_err-end_line.field-0.0)
    (sym (whole_turn bytes c.args.piece.now turn.0 (bytes_in c.loop-line.rest) (bytes_in c.in-Some.line) (bytes_in c.in-Some.after) turn.1 c.in-Some.ensures.parts))
    (refusal_more c.loop-line.self c.loop-line.context (bytes ++ turn.0) (turn.2 bytes h) (bytes_in c.in-Some.line) (bytes_in c.in-Some.after) c.in-Some.ensures.line c.in_err-end_line.field-0.0
    (c.in_err-end_line.ensures.fault (bytes ++ turn.0) (turn.2 bytes h))))

pub end_rows-requires : goal.end_rows-requires
end_rows-requires g c =
    let turn = c.loop-line.invariant.1 in
    (((c.requires.0 ++ turn.0) ++ bytes_in c.in-Some.line) ++ 10 ∷ [], c.in_ok-end_line.ensures.read (c.requires.0 ++ turn.0) (turn.2 c.requires.0 c.requires.1))

pub loop-line-preserved : goal.loop-line-preserved
loop-line-preserved g c =
    let turn = c.loop-line.invariant.1 in
    let line = bytes_in c.in-Some.line in
    let on = c.in_ok-rest.ensures.read in
    let had = g.T.Taker.has_taken c.args.taker.now c.args.context.now in
    let then = g.T.Taker.has_taken c.loop-line.taker c.loop-line.context in
    let mid = g.T.Taker.has_taken c.end_line.new.taker c.end_line.new.context in
    let has = g.T.Taker.has_taken c.end_rows.new.taker c.end_line.new.context in
    let gone = turn.0 ++ (line ++ 10 ∷ []) in
    let read = λ (bytes : List ℕ) (h : HasRead c.args.self.now c.args.context.now bytes). subst (HasRead c.end_line.new.self c.end_line.new.context) (turns bytes turn.0 line) (c.in_ok-end_line.ensures.read (bytes ++ turn.0) (turn.2 bytes h)) in
    let taken = λ (bytes : List ℕ) (h : HasRead c.args.self.now c.args.context.now bytes). subst (TakesBytes had mid bytes) (turns bytes turn.0 line)
    (TakesUpTo-trans had then mid (rows_before bytes) (rows_before (bytes ++ turn.0)) (rows_before (((bytes ++ turn.0) ++ line) ++ 10 ∷ [])) (turn.3 bytes h)
    (c.in_ok-end_line.ensures.taken (bytes ++ turn.0) (turn.2 bytes h)))
    in (
      Grows-trans _ _ _ c.loop-line.invariant.0 c.in_ok-end_line.ensures.grows,
      (
        gone ++ on.front,
        piece_turn c.args.piece.now turn.0 (bytes_in c.loop-line.rest) line (bytes_in c.in-Some.after) turn.1 c.in-Some.ensures.parts ∙ ap (λ l. gone ++ l) on.parts ∙ sym (append_assoc gone on.front _),
        (λ bytes h. subst (HasRead c.end_rows.new.self c.end_line.new.context) (append_assoc bytes gone on.front) (on.read (bytes ++ gone) (read bytes h))),
        (λ bytes h. subst (TakesBytes had has bytes) (append_assoc bytes gone on.front)
            (TakesUpTo-trans had mid has (rows_before bytes) (rows_before (bytes ++ gone)) (rows_before ((bytes ++ gone) ++ on.front)) (taken bytes h) (on.taken (bytes ++ gone) (read bytes h)))),
        c.in_ok-rest.ensures.about ∙ c.in_ok-end_line.ensures.about ∙ turn.4,
      ),
    )

pub returns-clause-read : goal.returns-clause-read
returns-clause-read g c =
    let turn = c.loop-line.invariant.1 in
    on_ok_weaker c.begin.result (λ read bytes h. subst (HasRead c.begin.new.self c.loop-line.context)
    (ap (λ p. (bytes ++ turn.0) ++ p) c.bytes.ensures ∙ append_assoc bytes turn.0 (bytes_in c.loop-line.rest) ∙ ap (λ p. bytes ++ p) (sym turn.1))
    (read c.loop-line.context (bytes ++ turn.0) (turn.2 bytes h))) c.begin.ensures.read

pub returns-clause-taken : goal.returns-clause-taken
returns-clause-taken g c =
    let turn = c.loop-line.invariant.1 in
    let had = g.T.Taker.has_taken c.args.taker.now c.args.context.now in
    let has = g.T.Taker.has_taken c.loop-line.taker c.loop-line.context in
    on_ok_weaker c.begin.result (λ read bytes h. subst (TakesUpTo had has (rows_before bytes))
    (sym (rows_begun c.loop-line.self c.loop-line.context (bytes ++ turn.0) (turn.2 bytes h) (bytes_in c.loop-line.rest) c.in_default.ensures.none)
    ∙ ap rows_before (append_assoc bytes turn.0 (bytes_in c.loop-line.rest) ∙ ap (λ p. bytes ++ p) (sym turn.1))) (turn.3 bytes h)) c.begin.ensures.read

pub returns-in_err-end_line-clause-grows : goal.returns-in_err-end_line-clause-grows
returns-in_err-end_line-clause-grows g c = Grows-trans _ _ _ c.loop-line.invariant.0 c.end_line.ensures.grows

pub returns-in_err-rest-clause-grows : goal.returns-in_err-rest-clause-grows
returns-in_err-rest-clause-grows g c = Grows-trans _ _ _ c.loop-line.invariant.0 c.in_ok-end_line.ensures.grows

pub returns-clause-about : goal.returns-clause-about
returns-clause-about g c =
    on_ok_weaker c.begin.result (λ read. c.loop-line.invariant.1.4) c.begin.ensures.read
