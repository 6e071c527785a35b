-- A line ends in a world as the journal has it: what the world's history and the thread tell of it
-- is what the journal tells.
use Rattle.std.proofs.Common.{◌≡◌, ◌≤◌, List, [], ◌∷◌, ◌++◌, length, map, ap, sym, ◌∙◌}
use Rattle.std.specs.Prelude.{Option, unwrap_or, zip}
use Rattle.cal_context.specs.Lists.{IsFront}
use Rattle.cal_events.proofs.NextLemmas.{Rules, noted_with, reply-is}
use Rattle.cal_events.specs.Effects.{line_ended, note_made}
use Rattle.cal_events.specs.Worlds.{Held, ThreadWorld}
use Rattle.cal_run.proofs.FrontLemmas.{found_reply-front, previous_after-front, state_after-front}
use Rattle.cal_run.proofs.FrontLemmas.{taken_in-front}
use Rattle.cal_run.specs.Lawful.{Lawful}
use Rattle.cal_run.specs.Steps.{ThreadState, found_reply, previous_after, state_after, taken_in}
use Rattle.cal_script.specs.declared.journal.Journal.{Journal}
use Rattle.cal_script.specs.declared.journal.LineNote.{LineNote}
use Rattle.cal_script.specs.declared.journal.Placed.{Placed}
use Rattle.cal_script.specs.declared.journal.Reply as replies
use Rattle.cal_script.specs.declared.script.Channel.{Channel}
use Rattle.cal_script.specs.declared.script.Script.{Script}
use Rattle.cal_world.specs.declared.turn.Turn.{Turn}

-- what a channel has behind a line with this note, from a state
abbrev pub held_as : Script → List Placed → Turn → LineNote → ThreadState → Channel × Held → Held
held_as script history x note state c = record {
  previous = previous_after script history x.line note state c.0 c.1.previous;
  trace = c.1.trace ++ taken_in script history x.line note state c.0 c.1.previous;
  unflushed = c.1.unflushed ++ taken_in script history x.line note state c.0 c.1.previous;
}

-- and what a thread has
abbrev pub ended_as : Script → List Placed → Turn → LineNote → ThreadState → ThreadWorld
    → ThreadWorld
ended_as script history x note state t = record {
  seen = note.seen;
  state = state_after script history x.line note state;
  note = record { start = t.note.start; lines = t.note.lines ++ note ∷ [] };
  channels = map (held_as script history x note state) (zip script.channels t.channels);
}

module _ (script : Script) (journal : Journal) (lawful : Lawful script journal)
    (history : List Placed) (front : IsFront history journal.ops) (x : Turn) (state : ThreadState)
    (rule : Rules script journal (noted_with x state)) (t : ThreadWorld)
    (seen : t.seen ≡ x.note.seen) (state_is : t.state ≡ state)
    (within : x.note.seen ≤ length history) where
  -- the reply by the world's history is that by the journal's
  reply-front : found_reply script history x.line x.note state
      ≡ found_reply script journal.ops x.line x.note state
  reply-front = sym (ap (λ (h : List Placed). found_reply script h x.line x.note state) front.1
      ∙ found_reply-front script history front.0 x.line x.note within state)

  -- the note is the journal's
  note-is : note_made script history x t ≡ x.note
  note-is =
      (λ j. record {
        reply = unwrap_or (found_reply script history x.line
            (record { reply = x.note.reply; seen = seen j; reading = x.note.reading })
            (state_is j)) x.note.reply;
        seen = seen j;
        reading = x.note.reading;
      })
      ∙ ap (λ (r : replies.Reply). record {
        reply = r;
        seen = x.note.seen;
        reading = x.note.reading;
      }) (ap (λ (o : Option replies.Reply). unwrap_or o x.note.reply) reply-front
      ∙ reply-is script journal lawful x state rule)

  held-front : (c : Channel × Held) → held_as script history x x.note state c
      ≡ held_as script journal.ops x x.note state c
  held-front c =
      let taken : taken_in script history x.line x.note state c.0 c.1.previous
      ≡ taken_in script journal.ops x.line x.note state c.0 c.1.previous =
      sym (ap (λ (h : List Placed). taken_in script h x.line x.note state c.0 c.1.previous) front.1
      ∙ taken_in-front script history front.0 x.line x.note within state c.0 c.1.previous) in
      let last : previous_after script history x.line x.note state c.0 c.1.previous
      ≡ previous_after script journal.ops x.line x.note state c.0 c.1.previous =
      sym (ap (λ (h : List Placed). previous_after script h x.line x.note state c.0 c.1.previous)
      front.1
      ∙ previous_after-front script history front.0 x.line x.note within state c.0 c.1.previous) in
      λ j. record {
        previous = last j;
        trace = c.1.trace ++ taken j;
        unflushed = c.1.unflushed ++ taken j;
      }

  state-front : state_after script history x.line x.note state
      ≡ state_after script journal.ops x.line x.note state
  state-front = sym (ap (λ (h : List Placed). state_after script h x.line x.note state) front.1
      ∙ state_after-front script history front.0 x.line x.note within state)

  -- so the thread has what the journal says
  pub ended-is : line_ended script history x t ≡ ended_as script journal.ops x x.note state t
  ended-is =
      (λ j. record {
        seen = seen j;
        state = state_after script history x.line (note-is j) (state_is j);
        note = record { start = t.note.start; lines = t.note.lines ++ note-is j ∷ [] };
        channels = map (λ (c : Channel × Held). held_as script history x (note-is j) (state_is j) c)
            (zip script.channels t.channels);
      })
      ∙ (λ j. record {
        seen = x.note.seen;
        state = state-front j;
        note = record { start = t.note.start; lines = t.note.lines ++ x.note ∷ [] };
        channels = map (λ (c : Channel × Held). held-front c j) (zip script.channels t.channels);
      })
