-- Where the words of a table lie.
use Rattle.std.proofs.Common.{◌≡◌, ℕ, ◌+◌, ◌<◌, arith}
use Rattle.cal_words.specs.declared.shape.Shape.{Shape}
use Rattle.cal_once.specs.Layout.{IsWithin, word_count, arena_start, start_in, size_in}
use Rattle.cal_once.proofs.Regions.{arena_inside}

pub slot_inside : (shape : Shape) (words place : ℕ) → words ≡ word_count shape → place < shape.slots → place + 1 < words
slot_inside shape words place long h = omega arith

pub region_inside : (shape : Shape) (words number slot i : ℕ) → words ≡ word_count shape → IsWithin shape number shape.arena slot → i < start_in slot + size_in slot → i < words
region_inside shape words number slot i long w h = let b = arena_inside shape number shape.arena w.is_arena (omega arith) in let to = w.to in omega arith

pub arena_word_inside : (shape : Shape) (words number i : ℕ) → words ≡ word_count shape → number < shape.arenas → i < arena_start shape number + shape.arena → i < words
arena_word_inside shape words number i long h inside = let b = arena_inside shape number shape.arena h (omega arith) in omega arith
