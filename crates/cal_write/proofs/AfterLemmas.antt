use Rattle.std.proofs.Common.{◌≡◌, ℕ, false, List, [], ◌∷◌, ◌++◌, refl, sym, ap, ◌∙◌, fold, if◌then◌else◌}
use Rattle.std.specs.List.{list_any}
use Rattle.std.proofs.lemmas.List.{append_assoc, append-nil}
use Rattle.std.proofs.lemmas.List.Sums.{fold-append}
use Rattle.cal_write.specs.Nodes.{Node, same_node, with_node}
use Rattle.cal_write.specs.CanonicalText.{lines_of_new, line_of_node}
use Rattle.cal_write.specs.Places.{HasAll}
use Rattle.cal_write.specs.Written.{Written, after}

written_one : (s t : Written) → s.nodes ≡ t.nodes → s.text ≡ t.text → s ≡ t
written_one s t a b = λ j. record { nodes = a j; text = b j }

-- lines of nodes that are needed one list after another
pub lines_of_new-append : (ns xs ys : List Node) → lines_of_new ns (xs ++ ys) ≡ lines_of_new ns xs ++ lines_of_new (fold with_node ns xs) ys
lines_of_new-append ns [] ys = refl
lines_of_new-append ns (n ∷ xs) ys =
    let line : List ℕ = if list_any (same_node n) ns then [] else line_of_node (ns ++ n ∷ []) n in
    ap (λ l. line ++ l) (lines_of_new-append (with_node ns n) xs ys)
    ∙ sym (append_assoc line (lines_of_new (with_node ns n) xs) (lines_of_new (fold with_node (with_node ns n) xs) ys))

pub after-append : (s : Written) (xs ys : List Node) → after s (xs ++ ys) ≡ after (after s xs) ys
after-append s xs ys =
    written_one (after s (xs ++ ys)) (after (after s xs) ys) (fold-append with_node s.nodes xs ys)
    (ap (λ l. s.text ++ l) (lines_of_new-append s.nodes xs ys)
    ∙ sym (append_assoc s.text (lines_of_new s.nodes xs) (lines_of_new (fold with_node s.nodes xs) ys)))

-- what is there already leaves a stream
pub after-known : (s : Written) (needed : List Node) → HasAll s.nodes needed → after s needed ≡ s
after-known s needed h =
    written_one (after s needed) s (nodes s.nodes needed h) (ap (λ l. s.text ++ l) (lines s.nodes needed h) ∙ append-nil s.text)
  where
    nodes : (ns needed : List Node) → HasAll ns needed → fold with_node ns needed ≡ ns
    nodes ns [] h = refl
    nodes ns (n ∷ needed) h = rw h.0 (nodes ns needed h.1)

    lines : (ns needed : List Node) → HasAll ns needed → lines_of_new ns needed ≡ []
    lines ns [] h = refl
    lines ns (n ∷ needed) h = rw h.0 (lines ns needed h.1)

-- one that is new is put last, and written
pub after-new : (s : Written) (n : Node) → list_any (same_node n) s.nodes ≡ false
    → after s (n ∷ []) ≡ record { nodes = s.nodes ++ n ∷ []; text = s.text ++ line_of_node (s.nodes ++ n ∷ []) n }
after-new s n new =
    written_one (after s (n ∷ [])) (record { nodes = s.nodes ++ n ∷ []; text = s.text ++ line_of_node (s.nodes ++ n ∷ []) n })
    (rw new refl) (rw new (ap (λ l. s.text ++ l) (append-nil (line_of_node (s.nodes ++ n ∷ []) n))))
