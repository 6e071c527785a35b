-- Columns of a row that are looked up as they are read.
use Rattle.std.proofs.Common.{◌≡◌, ◌≢◌, ◌<◌, ◌≤◌, ◌+◌, ℕ, List, [], ◌∷◌, ◌++◌, length, drop, get_or, refl, sym, ap, ◌∙◌, subst, append_assoc}
use Rattle.std.specs.Prelude.{Ok, codes}
use Rattle.std.specs.List.{between}
use Rattle.std.proofs.lemmas.List.{map-append}
use Rattle.std.proofs.lemmas.List.Elements.{All-nil, All-push}
use Rattle.cal_context.specs.Snapshots.{IsBelowRoot}
use Rattle.cal_context.specs.Tree.{attribute_at}
use Rattle.cal_context.specs.declared.numbers.AttributeNumber.{AttributeNumber}
use Rattle.cal_context.specs.declared.numbers.NodeNumber.{NodeNumber}
use Rattle.cal_read.specs.Fields.{id_of}
use Rattle.cal_read.specs.Held.{IsNumberOf, held_at}
use Rattle.cal_read.specs.NodeLines.{known, as_attribute}
use Rattle.cal_read.specs.Nodes.{attribute_of, node_at}
use Rattle.cal_read.specs.Usual.{IsPlain, IsThere, written_head, written_values}
use Rattle.cal_read.specs.Known.{NamesAttributes}
use Rattle.cal_read.specs.UsualColumns.{EndsAre, HasNode, HasNumber, NumbersAre, ReadsColumns, ReadsEnds, ReadsHead}
use Rattle.cal_read.specs.declared.nodes.Nodes.{Nodes}
use Rattle.cal_read.proofs.ColumnLemmas.{attribute_is, ends_push, known_some}
use Rattle.cal_read.proofs.EachLemmas.{each-push}
use Rattle.cal_read.proofs.HeldLemmas.{if_held}
use Rattle.cal_read.proofs.UsualLemmas.{ids_more, some_values}

-- ---- ids of nodes

no_ends : (nodes : Nodes) (ends : List NodeNumber) → ends ≡ [] → EndsAre nodes [] ends
no_ends nodes ends none = λ t named are. record { found = []; known = refl; are = rw none (record { below = All-nil (IsBelowRoot t); paths = refl }) }

module _ (nodes : Nodes) (line : List ℕ) (start place end id : ℕ) where
  pub ends_more : (ends new : List NodeNumber) (node : NodeNumber) → ReadsEnds nodes line start place ends → place < length line → get_or line place 0 ≡ 61 → IsPlain line (place + 1) end
      → id_of (between (place + 1) end line) ≡ Ok id → HasNode nodes id node → new ≡ ends ++ node ∷ [] → ReadsEnds nodes line start end new
  ends_more ends new node so_far within sign plain is has items = record {
    ids = so_far.ids ++ id ∷ [];
    read = ids_more line start place end so_far.ids (so_far.ids ++ id ∷ []) id so_far.read within sign plain is refl;
    are = λ t named are.
        let before = so_far.are t named are in
        let it = if_held t (held_at nodes id) (node_at named id) has.held (are id) has.there in
        record {
          found = before.found ++ it.0 ∷ [];
          known = each-push (known named) so_far.ids id before.found it.0 before.known (known_some named id it.0 it.1);
          are = rw (items, sym has.node_is) (ends_push t ends before.found has.held it.0 before.are it.2);
        };
  }

-- ---- ids of attributes

pub numbers_none : (nodes : Nodes) (numbers : List AttributeNumber) → numbers ≡ [] → NumbersAre nodes [] numbers
numbers_none nodes numbers none =
    λ t named are. record { found = []; known = refl; attributes = []; have = refl; are = rw none (record { known = All-nil (λ n. n.0 < length t.attributes); are = refl }) }

pub numbers_more : (nodes : Nodes) (ids : List ℕ) (id : ℕ) (numbers new : List AttributeNumber) (n : AttributeNumber) → NumbersAre nodes ids numbers → HasNumber nodes id n
    → new ≡ numbers ++ n ∷ [] → NumbersAre nodes (ids ++ id ∷ []) new
numbers_more nodes ids id numbers new n so_far has items = λ t named are.
    let before = so_far t named are in
    let it = if_held t (held_at nodes id) (node_at named id) has.held (are id) has.there in
    let a = attribute_is t n (attribute_of it.0) (subst (λ x. IsNumberOf t x (attribute_of it.0)) has.number_is it.2.number) in
    record {
      found = before.found ++ it.0 ∷ [];
      known = each-push (known named) ids id before.found it.0 before.known (known_some named id it.0 it.1);
      attributes = before.attributes ++ attribute_at t n ∷ [];
      have = each-push as_attribute before.found it.0 before.attributes (attribute_at t n) before.have a.1;
      are = rw items (record {
        known = All-push (λ m. m.0 < length t.attributes) numbers n before.are.known a.0;
        are = map-append (attribute_at t) numbers (n ∷ []) ∙ ap (λ r. r ++ attribute_at t n ∷ []) before.are.are;
      });
    }

-- ---- what stands before the values

pub both_there : (line : List ℕ) (start middle end : ℕ) (xs ys : List ℕ) → IsThere line start xs middle → IsThere line middle ys end → IsThere line start (xs ++ ys) end
both_there line start middle end xs ys first second = record {
  within = second.within;
  read = first.read ∙ ap (λ (l : List ℕ). xs ++ l) second.read ∙ sym (append_assoc xs ys (drop end line));
}

-- a head without nodes
pub head_none : (nodes : Nodes) (line : List ℕ) (middle end : ℕ) (ends : List NodeNumber) → IsThere line 0 (codes "__rec=") middle → IsThere line middle (codes "ctx,") end → ends ≡ []
    → ReadsHead nodes line end ends
head_none nodes line middle end ends first second none = record {
  refs = [];
  head = record { texts = []; within = second.within; whole = (both_there line 0 middle end (codes "__rec=") (codes "ctx,") first second).read; read = refl };
  are = no_ends nodes ends none;
}

head_whole : (texts : List (List ℕ)) (line rest : List ℕ) → texts ≢ [] → line ≡ codes "__rec=ctx,ref" ++ (written_values texts ++ (codes "," ++ rest)) → line ≡ written_head texts ++ rest
head_whole [] line rest some is = absurd (some refl)
head_whole (text ∷ texts) line rest some is = is ∙ ap (λ (l : List ℕ). codes "__rec=ctx,ref" ++ l) (sym (append_assoc (written_values (text ∷ texts)) (codes ",") rest))

-- a head with nodes
pub head_some : (nodes : Nodes) (line : List ℕ) (middle place start last end : ℕ) (ends : List NodeNumber) → IsThere line 0 (codes "__rec=") middle → IsThere line middle (codes "ctx,") place
    → IsThere line place (codes "ref") start → ReadsEnds nodes line start last ends → last ≢ start → IsThere line last (codes ",") end → ReadsHead nodes line end ends
head_some nodes line middle place start last end ends first second third are apart fourth =
    let key = both_there line 0 place start (codes "__rec=ctx,") (codes "ref") (both_there line 0 middle place (codes "__rec=") (codes "ctx,") first second) third in
    let texts = are.read.texts in
    record {
      refs = are.ids;
      head = record {
        texts = texts;
        within = fourth.within;
        whole = head_whole texts line (drop end line) (some_values line start last texts third.within are.read.values apart)
            (key.read ∙ ap (λ (l : List ℕ). codes "__rec=ctx,ref" ++ l) (are.read.values.read ∙ ap (λ (l : List ℕ). written_values texts ++ l) fourth.read));
        read = are.read.read;
      };
      are = are.are;
    }

-- all that stands before the values
pub columns_there : (nodes : Nodes) (line : List ℕ) (place start end : ℕ) (ends : List NodeNumber) (numbers : List AttributeNumber) → ReadsHead nodes line place ends
    → IsThere line place (codes "attr") start → NamesAttributes nodes line start end numbers → ReadsColumns nodes line end ends numbers
columns_there nodes line place start end ends numbers head key are =
    let named = are.named in
    let read = named.spelled.read in
    record {
      refs = head.refs;
      ids = are.ids;
      columns = record {
        refs_texts = head.head.texts;
        texts = read.texts;
        some = named.spelled.some;
        within = named.key.within;
        whole = head.head.whole
            ∙ ap (λ (l : List ℕ). written_head head.head.texts ++ l)
            (key.read ∙ ap (λ (l : List ℕ). codes "attr" ++ l) (read.values.read ∙ ap (λ (l : List ℕ). written_values read.texts ++ l) named.key.read));
        refs_read = head.head.read;
        read = read.read;
      };
      ends_are = head.are;
      numbers_are = are.are;
    }
