-- Which lines take a reading, by the timers of a script.
use Rattle.std.proofs.Common.{◌≡◌, List, [], ◌∷◌, Bool, true, false, ◌&&◌, ◌||◌, refl, sym, ap, ◌∙◌}
use Rattle.std.specs.List.{list_any}
use Rattle.cal_run.specs.Lines.{is_event, is_such, operation_of, takes}
use Rattle.cal_run.specs.Timers.{AreTimers}
use Rattle.cal_run.specs.declared.timers.Timers.{Timers}
use Rattle.cal_script.specs.declared.script.Channel.{Channel}
use Rattle.cal_script.specs.declared.script.Line.{Line}
use Rattle.cal_script.specs.declared.script.Line.TheVariants as line
use Rattle.cal_script.specs.declared.script.Script.{Script}

-- tests that agree on each channel agree on a list
alike : (f g : Channel → Bool) → ((c : Channel) → f c ≡ g c) → (cs : List Channel)
    → list_any f cs ≡ list_any g cs
alike f g same [] = refl
alike f g same (c ∷ cs) = λ j. same c j || alike f g same cs j

either-and : (a b q : Bool) → ((a && q) || (b && q)) ≡ ((a || b) && q)
either-and true b true = refl
either-and true true false = refl
either-and true false false = refl
either-and false b q = refl

-- a test that is the same for all channels stands behind the others
any-and : (f : Channel → Bool) (q : Bool) (cs : List Channel)
    → list_any (λ c. f c && q) cs ≡ (list_any f cs && q)
any-and f q [] = refl
any-and f q (c ∷ cs) =
    (λ j. (f c && q) || any-and f q cs j) ∙ either-and (f c) (list_any f cs) q

and-assoc : (a b q : Bool) → (a && (b && q)) ≡ ((a && b) && q)
and-assoc true b q = refl
and-assoc false b q = refl

and-true : (a : Bool) → (a && true) ≡ a
and-true true = refl
and-true false = refl

and-false : (a : Bool) → (a && false) ≡ false
and-false true = refl
and-false false = refl

module _ (script : Script) where
  -- a line that isn't accepted takes none
  pub read-accepted : (accepted : Bool) (l : Line)
      → (accepted && list_any (λ c. c.timer && takes script c l) script.channels)
      ≡ list_any (λ c. c.timer && (accepted && takes script c l)) script.channels
  read-accepted true l = refl
  read-accepted false l = sym (any-and (λ c. c.timer) false script.channels
      ∙ and-false (list_any (λ c. c.timer) script.channels))

  module _ (t : Timers) (are : AreTimers script t) where
    pub read-snapshot : (l : Line) → l ≡ line.Snapshot
        → t.some ≡ list_any (λ c. c.timer && takes script c l) script.channels
    read-snapshot l is =
        are.some
        ∙ sym (alike (λ c. c.timer && true) (λ c. c.timer) (λ c. and-true c.timer) script.channels)
        ∙ ap (λ l. list_any (λ c. c.timer && takes script c l) script.channels) (sym is)

    event-read : (e : Bool)
        → (t.events && e) ≡ list_any (λ c. c.timer && (c.event && e)) script.channels
    event-read e =
        ap (λ (b : Bool). b && e) are.events
        ∙ sym (any-and (λ c. c.timer && c.event) e script.channels)
        ∙ sym (alike (λ c. c.timer && (c.event && e)) (λ c. (c.timer && c.event) && e)
        (λ c. and-assoc c.timer c.event e) script.channels)

    pub read-else : (l : Line) → (l ≡ line.Snapshot → ⊥)
        → (t.events && is_such (is_event script) (operation_of l))
        ≡ list_any (λ c. c.timer && takes script c l) script.channels
    read-else (line.Begin a v) other =
        event-read (is_such (is_event script) (operation_of (line.Begin a v)))
    read-else (line.End a) other =
        event-read (is_such (is_event script) (operation_of (line.End a)))
    read-else (line.Set a v) other =
        event-read (is_such (is_event script) (operation_of (line.Set a v)))
    read-else line.Snapshot other = absurd (other refl)
    read-else (line.Flush c) other =
        event-read (is_such (is_event script) (operation_of (line.Flush c)))
    read-else (line.Tick n) other =
        event-read (is_such (is_event script) (operation_of (line.Tick n)))
