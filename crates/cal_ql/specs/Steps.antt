-- What the steps of the reader answer (private).
use Rattle.std.specs.Prelude.{◌≡◌, ◌<◌, ◌≤◌, Result, Ok, Err}
use Rattle.cal_ql.specs.declared.end.QueryEnd as ends
use Rattle.cal_ql.specs.declared.end.QueryEnd.TheVariants as end
use Rattle.cal_ql.specs.declared.ahead.Ahead.{Ahead}
use Rattle.cal_ql.specs.declared.ahead.Front as fronts
use Rattle.cal_ql.specs.declared.ahead.Front.TheVariants as front
use Rattle.cal_ql.specs.Tokens.{Fault, Tokens, end, broken, token, tokens_from}
use Rattle.cal_ql.specs.Reading.{count}
use Rattle.cal_ql.specs.Scanning.{token_of}

-- What a step answers, seen by view, is what a definition gives, unless memory ran out.
abbrev pub Fails : {Y : Type 0} → ends.QueryEnd → Result Y Fault → Type 0
Fails (end.BadQuery place kind) read = read ≡ Err (record { place = place; kind = kind })
Fails end.OutOfMemory read = Unit {0}

abbrev pub Gives : {X Y : Type 0} → (X → Y) → Result X ends.QueryEnd → Result Y Fault → Type 0
Gives view (Ok x) read = read ≡ Ok (view x)
Gives view (Err e) read = Fails e read

-- the end of a step at a fault
abbrev pub end_of : Fault → ends.QueryEnd
end_of fault = end.BadQuery fault.place fault.kind

-- the tokens ahead of the reader
unfoldable pub tokens_ahead : Ahead → Tokens
tokens_ahead ahead = tokens_from ahead.whole ahead.rest.now 0

-- one reader is further on than another
abbrev pub Advances : Ahead → Ahead → Type 0
Advances old new = count (tokens_ahead new) < count (tokens_ahead old)

-- or not further back
abbrev pub Keeps : Ahead → Ahead → Type 0
Keeps old new = count (tokens_ahead new) ≤ count (tokens_ahead old)

-- what a step that reads answers: a value and where it stopped
abbrev pub seen_pair : {X : Type 0} → X × Ahead → X × Tokens
seen_pair x = (x.0, tokens_ahead x.1)

-- the tokens of what stands at the front
abbrev pub tokens_at : fronts.Front → Tokens
tokens_at (front.End place) = end place
tokens_at (front.Broken place kind) = broken (record { place = place; kind = kind })
tokens_at (front.Token place t behind) = token place (token_of t) (tokens_ahead behind)
