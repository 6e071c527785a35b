-- The services of a channel.
use Rattle.std.proofs.Common.{◌≡◌, ◌≢◌, ℕ, Bool, true, false, ◌||◌, cond, eqb, List, [], ◌∷◌, ◌++◌}
use Rattle.std.proofs.Common.{map, refl, sym, ap, subst, ◌∙◌, append_assoc, lit≤, lit<}
use Rattle.std.specs.Prelude.{Result, Ok, Err, codes}
use Rattle.std.specs.List.{All, join_with_byte, list_any}
use Rattle.std.specs.Str.{bytes_eq}
use Rattle.std.proofs.lemmas.List.Elements.{All-nil, All-cons, All-head, All-tail, All-append}
use Rattle.std.proofs.lemmas.List.Splits.{slice_split_at, slice_split_none}
use Rattle.cal_line.specs.FirstFault.{◌>>=◌, after_lines}
use Rattle.cal_line.proofs.FirstFaults.{after_lines-append}
use Rattle.cal_script.specs.declared.kind.ScriptKind.{ScriptKind}
use Rattle.cal_script.specs.declared.kind.ScriptKind.TheVariants.{BadService}
use Rattle.cal_script.specs.declared.script.Channel.{Channel}
use Rattle.cal_script.specs.declared.script.ChannelQuery.{ChannelQuery}
use Rattle.cal_script.specs.declared.script.ProbeKind as probes
use Rattle.cal_script.specs.declared.script.ProbeKind.TheVariants as probe
use Rattle.cal_script.specs.Lines.{pieces}
use Rattle.cal_script.specs.Parts.{bare_channel, is_probe, with_probe, with_service}
use Rattle.cal_valid.proofs.Binds.{bind_ok, choice_ok, unless_ok}
use Rattle.cal_spelling.specs.CanonicalText.{probe_name, services}
use Rattle.cal_spelling.proofs.Words.{IsWord, literal, word_between}

-- each probe at most once
abbrev pub are_probes : List probes.ProbeKind → Bool
are_probes [] = true
are_probes (probe.Depth ∷ []) = true
are_probes (probe.Count ∷ []) = true
are_probes (probe.Depth ∷ probe.Count ∷ []) = true
are_probes (probe.Count ∷ probe.Depth ∷ []) = true
are_probes _ = false

abbrev pub bare_query : ChannelQuery
bare_query = record { by_default = true; keys = []; values = [] }

-- what the services leave of a channel
pub record IsServed (name : List ℕ) (channel : Channel) : Type 0 where
  pub same : channel.name ≡ name
  pub query : channel.query ≡ bare_query
  pub probes : are_probes channel.probes ≡ true

-- ---- reading them

probes_more : (ps : List probes.ProbeKind) (p : probes.ProbeKind) → are_probes ps ≡ true
    → list_any (is_probe p) ps ≡ false → are_probes (ps ++ p ∷ []) ≡ true
probes_more [] probe.Depth are new = refl
probes_more [] probe.Count are new = refl
probes_more (probe.Depth ∷ []) probe.Depth are new = absurd cc
probes_more (probe.Depth ∷ []) probe.Count are new = refl
probes_more (probe.Count ∷ []) probe.Depth are new = refl
probes_more (probe.Count ∷ []) probe.Count are new = absurd cc
probes_more (probe.Depth ∷ probe.Count ∷ []) probe.Depth are new = absurd cc
probes_more (probe.Depth ∷ probe.Count ∷ []) probe.Count are new = absurd cc
probes_more (probe.Count ∷ probe.Depth ∷ []) probe.Depth are new = absurd cc
probes_more (probe.Count ∷ probe.Depth ∷ []) probe.Count are new = absurd cc
probes_more (probe.Depth ∷ probe.Depth ∷ []) p are new = absurd cc
probes_more (probe.Count ∷ probe.Count ∷ []) p are new = absurd cc
probes_more (probe.Depth ∷ probe.Depth ∷ x ∷ ps) p are new = absurd cc
probes_more (probe.Depth ∷ probe.Count ∷ x ∷ ps) p are new = absurd cc
probes_more (probe.Count ∷ probe.Depth ∷ x ∷ ps) p are new = absurd cc
probes_more (probe.Count ∷ probe.Count ∷ x ∷ ps) p are new = absurd cc

made_served : (name : List ℕ) (made next : Channel) (said : Result Channel ScriptKind) → said
    ≡ Ok made → said ≡ Ok next → IsServed name made → IsServed name next
made_served name made next said is also served = let same : made ≡ next = cc in
    subst (λ (c : Channel). IsServed name c) same served

flag_served : (name : List ℕ) (has : Bool) (made next : Channel) → IsServed name made
    → cond has (Err BadService) (Ok made) ≡ Ok next → IsServed name next
flag_served name has made next served is =
    let passed = unless_ok has BadService (Ok made) next is in
    made_served name made next (Ok made) refl passed.1 served

probe_served : (name : List ℕ) (channel next : Channel) (p : probes.ProbeKind)
    → IsServed name channel → with_probe channel p ≡ Ok next → IsServed name next
probe_served name channel next p served is =
    let made : Channel = record channel { probes = channel.probes ++ p ∷ [] } in
    let passed = unless_ok (list_any (is_probe p) channel.probes) BadService (Ok made) next is in
    made_served name made next (Ok made) refl passed.1
    (record {
      same = served.same;
      query = served.query;
      probes = probes_more channel.probes p
          served.probes passed.0;
    })

service_served : (name : List ℕ) (channel next : Channel) (word : List ℕ) → IsServed name channel
    → with_service channel word ≡ Ok next → IsServed name next
service_served name channel next word served is =
    choice_ok (bytes_eq word (codes "event")) _ _ next is
    (λ e. flag_served name channel.event (record channel { event = true }) next
    (record { same = served.same; query = served.query; probes = served.probes }) e) (λ is.
    choice_ok (bytes_eq word (codes "timer")) _ _ next is
    (λ e. flag_served name channel.timer (record channel { timer = true }) next
    (record { same = served.same; query = served.query; probes = served.probes }) e) (λ is.
    choice_ok (bytes_eq word (codes "trace")) _ _ next is
    (λ e. flag_served name channel.trace (record channel { trace = true }) next
    (record { same = served.same; query = served.query; probes = served.probes }) e) (λ is.
    choice_ok (bytes_eq word (codes "aggregate")) _ _ next is
    (λ e. flag_served name channel.aggregate (record channel { aggregate = true }) next
    (record { same = served.same; query = served.query; probes = served.probes }) e) (λ is.
    choice_ok (bytes_eq word (codes "region.depth")) _ _ next is
    (λ e. probe_served name channel next probe.Depth served e) (λ is.
    choice_ok (bytes_eq word (codes "region.count")) _ _ next is
    (λ e. probe_served name channel next probe.Count served e) (λ is. absurd cc))))))

pub services_served : (name : List ℕ) (words : List (List ℕ)) (channel next : Channel)
    → IsServed name channel → after_lines with_service channel words ≡ Ok next → IsServed name next
services_served name [] channel next served is = made_served name channel next (Ok channel) refl is
    served
services_served name (word ∷ words) channel next served is =
    let step = bind_ok (with_service channel word) (λ made. after_lines with_service made words)
    next is in
    services_served name words step.0 next (service_served name channel step.0 word served step.1)
    step.2

-- ---- writing them

-- a service is a word without a comma
record IsService (word : List ℕ) : Type 0 where
  fine : IsWord word
  whole : All (λ byte. eqb byte 44 ≡ false) word

neither : (a b : Bool) → (a || b) ≡ false → (a ≡ false) × (b ≡ false)
neither true b is = absurd cc
neither false b is = (refl, is)

no_commas : (word : List ℕ) → list_any (λ byte. eqb byte 44) word ≡ false
    → All (λ byte. eqb byte 44 ≡ false) word
no_commas [] is = All-nil (λ byte. eqb byte 44 ≡ false)
no_commas (byte ∷ word) is =
    let none = neither (eqb byte 44) (list_any (λ byte. eqb byte 44) word) is in
    All-cons (λ byte. eqb byte 44 ≡ false) byte word none.0 (no_commas word none.1)

service : (word : List ℕ) → IsWord word → list_any (λ byte. eqb byte 44) word ≡ false
    → IsService word
service word is none = record { fine = is; whole = no_commas word none }

flag_services : (has : Bool) (word : List ℕ) → IsService word
    → All IsService (cond has (word ∷ []) [])
flag_services true word is = All-cons IsService word [] is (All-nil IsService)
flag_services false word is = All-nil IsService

probe_service : (p : probes.ProbeKind) → IsService (probe_name p)
probe_service probe.Depth = service (codes "region.depth")
    (literal (codes "region.depth") refl refl) refl
probe_service probe.Count = service (codes "region.count")
    (literal (codes "region.count") refl refl) refl

probe_services : (ps : List probes.ProbeKind) → All IsService (map probe_name ps)
probe_services [] = All-nil IsService
probe_services (p ∷ ps) = All-cons IsService (probe_name p) (map probe_name ps) (probe_service p)
    (probe_services ps)

all_services : (event timer trace aggregate : Bool) (ps : List probes.ProbeKind)
    → All IsService (cond event (codes "event" ∷ []) []
    ++ (cond timer (codes "timer" ∷ []) [] ++ (cond trace (codes "trace" ∷ []) []
    ++ (cond aggregate (codes "aggregate" ∷ []) [] ++ map probe_name ps))))
all_services event timer trace aggregate ps =
    All-append IsService (cond event (codes "event" ∷ []) []) _
    (flag_services event (codes "event") (service (codes "event")
    (literal (codes "event") refl refl) refl))
    (All-append IsService (cond timer (codes "timer" ∷ []) []) _
    (flag_services timer (codes "timer") (service (codes "timer")
    (literal (codes "timer") refl refl) refl))
    (All-append IsService (cond trace (codes "trace" ∷ []) []) _
    (flag_services trace (codes "trace") (service (codes "trace")
    (literal (codes "trace") refl refl) refl))
    (All-append IsService (cond aggregate (codes "aggregate" ∷ []) []) _
    (flag_services aggregate (codes "aggregate")
    (service (codes "aggregate") (literal (codes "aggregate") refl refl) refl))
    (probe_services ps))))

-- words between commas are their pieces, and one word in a line
pieces_joined : (first : List ℕ) (words : List (List ℕ)) → All IsService (first ∷ words)
    → pieces 44 (join_with_byte 44 (first ∷ words)) ≡ first ∷ words
pieces_joined first [] all = slice_split_none (λ byte. eqb byte 44) first
    (All-head IsService first [] all).whole
pieces_joined first (next ∷ words) all =
    slice_split_at (λ byte. eqb byte 44) first 44 (join_with_byte 44 (next ∷ words))
    (All-head IsService first (next ∷ words) all).whole refl
    ∙ ap (λ more. first ∷ more) (pieces_joined next words
    (All-tail IsService first (next ∷ words) all))

joined_word : (first : List ℕ) (words : List (List ℕ)) → All IsService (first ∷ words)
    → IsWord (join_with_byte 44 (first ∷ words))
joined_word first [] all = (All-head IsService first [] all).fine
joined_word first (next ∷ words) all =
    word_between first (join_with_byte 44 (next ∷ words)) 44 (lit≤ tt, lit< tt)
    (All-head IsService first (next ∷ words) all).fine
    (joined_word next words (All-tail IsService first (next ∷ words) all))

-- a channel with these services so far
abbrev so_far : List ℕ → Bool → Bool → Bool → Bool → List probes.ProbeKind → Channel
so_far name event timer trace aggregate ps = record {
  name = name;
  event = event;
  timer = timer;
  trace = trace;
  aggregate = aggregate;
  probes = ps;
  query = bare_query;
}

event_said : (name : List ℕ) (b : Bool) → after_lines with_service
    (so_far name false false false false []) (cond b (codes "event" ∷ []) [])
    ≡ Ok (so_far name b false false false [])
event_said name true = refl
event_said name false = refl

timer_said : (name : List ℕ) (event b : Bool) → after_lines with_service
    (so_far name event false false false []) (cond b (codes "timer" ∷ []) [])
    ≡ Ok (so_far name event b false false [])
timer_said name event true = refl
timer_said name event false = refl

trace_said : (name : List ℕ) (event timer b : Bool)
    → after_lines with_service (so_far name event timer false false [])
    (cond b (codes "trace" ∷ []) []) ≡ Ok (so_far name event timer b false [])
trace_said name event timer true = refl
trace_said name event timer false = refl

aggregate_said : (name : List ℕ) (event timer trace b : Bool)
    → after_lines with_service (so_far name event timer trace false [])
    (cond b (codes "aggregate" ∷ []) []) ≡ Ok (so_far name event timer trace b [])
aggregate_said name event timer trace true = refl
aggregate_said name event timer trace false = refl

probes_said : (name : List ℕ) (event timer trace aggregate : Bool) (ps : List probes.ProbeKind)
    → are_probes ps ≡ true
    → after_lines with_service (so_far name event timer trace aggregate []) (map probe_name ps)
    ≡ Ok (so_far name event timer trace aggregate ps)
probes_said name event timer trace aggregate [] are = refl
probes_said name event timer trace aggregate (probe.Depth ∷ []) are = refl
probes_said name event timer trace aggregate (probe.Count ∷ []) are = refl
probes_said name event timer trace aggregate (probe.Depth ∷ probe.Count ∷ []) are = refl
probes_said name event timer trace aggregate (probe.Count ∷ probe.Depth ∷ []) are = refl
probes_said name event timer trace aggregate (probe.Depth ∷ probe.Depth ∷ []) are = absurd cc
probes_said name event timer trace aggregate (probe.Count ∷ probe.Count ∷ []) are = absurd cc
probes_said name event timer trace aggregate (probe.Depth ∷ probe.Depth ∷ x ∷ ps) are = absurd cc
probes_said name event timer trace aggregate (probe.Depth ∷ probe.Count ∷ x ∷ ps) are = absurd cc
probes_said name event timer trace aggregate (probe.Count ∷ probe.Depth ∷ x ∷ ps) are = absurd cc
probes_said name event timer trace aggregate (probe.Count ∷ probe.Count ∷ x ∷ ps) are = absurd cc

then_said : (from mid to : Channel) (front back : List (List ℕ))
    → after_lines with_service from front ≡ Ok mid → after_lines with_service mid back ≡ Ok to
    → after_lines with_service from (front ++ back) ≡ Ok to
then_said from mid to front back first second =
    after_lines-append with_service from front back
    ∙ ap (λ (found : Result Channel ScriptKind). found
    >>= (λ next. after_lines with_service next back)) first ∙ second

-- services, written in their order, make the channel that has them
made_said : (name : List ℕ) (event timer trace aggregate : Bool) (ps : List probes.ProbeKind)
    → are_probes ps ≡ true
    → after_lines with_service (bare_channel name)
    (cond event (codes "event" ∷ []) [] ++ (cond timer (codes "timer" ∷ []) []
    ++ (cond trace (codes "trace" ∷ []) [] ++ (cond aggregate (codes "aggregate" ∷ []) []
    ++ map probe_name ps))))
    ≡ Ok (so_far name event timer trace aggregate ps)
made_said name event timer trace aggregate ps are =
    then_said (bare_channel name) (so_far name event false false false []) _
    (cond event (codes "event" ∷ []) []) _ (event_said name event)
    (then_said (so_far name event false false false []) (so_far name event timer false false []) _
    (cond timer (codes "timer" ∷ []) []) _ (timer_said name event timer)
    (then_said (so_far name event timer false false []) (so_far name event timer trace false []) _
    (cond trace (codes "trace" ∷ []) []) _ (trace_said name event timer trace)
    (then_said (so_far name event timer trace false []) (so_far name event timer trace aggregate [])
    _ (cond aggregate (codes "aggregate" ∷ []) []) _
    (aggregate_said name event timer trace aggregate)
    (probes_said name event timer trace aggregate ps are))))

-- ---- the whole

-- the text of the services is one word, whose pieces make the channel
pub record AreServices (channel : Channel) : Type 0 where
  pub word : IsWord (join_with_byte 44 (services channel))
  pub said : after_lines with_service (bare_channel channel.name)
      (pieces 44 (join_with_byte 44 (services channel)))
      ≡ Ok (record channel { query = bare_query })

some_services : (channel : Channel) (words : List (List ℕ)) → services channel ≡ words
    → All IsService words → words ≢ []
    → after_lines with_service (bare_channel channel.name) words
    ≡ Ok (record channel { query = bare_query }) → AreServices channel
some_services channel [] is all some said = absurd (some refl)
some_services channel (first ∷ words) is all some said = record {
  word = subst (λ (ws : List (List ℕ)). IsWord (join_with_byte 44 ws)) (sym is)
      (joined_word first words all);
  said = ap (λ (ws : List (List ℕ)). after_lines with_service (bare_channel channel.name)
      (pieces 44 (join_with_byte 44 ws))) is
      ∙ ap (after_lines with_service (bare_channel channel.name)) (pieces_joined first words all)
      ∙ said;
}

not_none : (event timer trace aggregate : Bool) (more : List (List ℕ)) → (trace || aggregate) ≡ true
    → (cond event (codes "event" ∷ []) [] ++ (cond timer (codes "timer" ∷ []) []
    ++ (cond trace (codes "trace" ∷ []) [] ++ (cond aggregate (codes "aggregate" ∷ []) []
    ++ more)))) ≢ []
not_none true timer trace aggregate more kept none = absurd cc
not_none false true trace aggregate more kept none = absurd cc
not_none false false true aggregate more kept none = absurd cc
not_none false false false true more kept none = absurd cc
not_none false false false false more kept none = absurd cc

pub are_services : (channel : Channel) → are_probes channel.probes ≡ true
    → (channel.trace || channel.aggregate) ≡ true → AreServices channel
are_services channel are kept =
    let nested : List (List ℕ) =
    cond channel.event (codes "event" ∷ []) [] ++ (cond channel.timer (codes "timer" ∷ []) []
    ++ (cond channel.trace (codes "trace" ∷ []) []
    ++ (cond channel.aggregate (codes "aggregate" ∷ []) [] ++ map probe_name channel.probes))) in
    let same : services channel ≡ nested = simp append_assoc in
    some_services channel nested same (all_services channel.event channel.timer channel.trace
    channel.aggregate channel.probes)
    (not_none channel.event channel.timer channel.trace channel.aggregate
    (map probe_name channel.probes) kept)
    (made_said channel.name channel.event channel.timer channel.trace channel.aggregate
    channel.probes are)
