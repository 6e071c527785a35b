-- The books that are made so far.
use Rattle.std.proofs.Common.{◌≡◌, ℕ, ◌+◌, ◌<◌, List, [], ◌∷◌, ◌++◌, length, take, sym, ap, ◌∙◌}
use Rattle.std.proofs.lemmas.List.{map_push, take_more}
use Rattle.std.proofs.lemmas.List.Elements.{All-push}
use Rattle.std.specs.Prelude.{slice_index_or}
use Rattle.cal_book.specs.Seats.{shape_of, threads_of}
use Rattle.cal_replay.specs.Flushing.{BookOf}
use Rattle.cal_start.specs.Runs.{AreBooks}
use Rattle.cal_table.specs.declared.shape.TableShape.{TableShape}

-- one book more, of the next shape
pub books-push : (threads : ℕ) (shapes : List TableShape) (i : ℕ) (books : List BookOf)
    (book : BookOf) (shape : TableShape) → AreBooks threads (take i shapes) books
    → i < length shapes → shape ≡ slice_index_or shapes i shape → shape_of book ≡ shape
    → threads_of book ≡ threads → AreBooks threads (take (i + 1) shapes) (books ++ book ∷ [])
books-push threads shapes i books book shape are less at made room = record {
  made = map_push (λ (b : BookOf). shape_of b) books book
      ∙ ap (λ (xs : List TableShape). xs ++ shape_of book ∷ []) are.made
      ∙ ap (λ (x : TableShape). take i shapes ++ x ∷ []) (made ∙ at)
      ∙ sym (take_more shapes i shape less);
  room = All-push (λ (b : BookOf). threads_of b ≡ threads) books book are.room room;
}
