-- What the names of GROUP BY take of a path, as a list in the order of the names.
use Rattle.std.specs.Prelude.{◌≡◌, ℕ, ◌+◌, ◌<◌, ◌-◌, ◌==◌, ◌≤◌, Bool, List, [], ◌∷◌, ◌++◌, ⊤}
use Rattle.std.specs.Prelude.{filter, length, replicate, slice_range}
use Rattle.std.specs.Prelude.{if◌then◌else◌, nat_lt}
use Rattle.std.specs.List.{All}
use Rattle.cal_context.specs.Tree.{Tree, path_at}
use Rattle.cal_context.specs.declared.numbers.NodeNumber.{NodeNumber}
use Rattle.cal_value.specs.declared.attribute.Entry.{Entry}
use Rattle.cal_keys.specs.Leading.{Leads}
use Rattle.cal_keys.specs.declared.share.Share.{Share}
use Rattle.cal_keys.specs.declared.share_lists.Span.{Span}

-- the node of the share at a place, or the root
abbrev pub node_for : List Share → ℕ → NodeNumber
node_for [] place = record { 0 = 0 }
node_for (share ∷ shares) place =
    if share.place == place then share.node else node_for shares place

-- places rise from one place to below another, and no share's node is the root
abbrev pub Rise : ℕ → ℕ → List Share → Type 0
Rise from to [] = ⊤
Rise from to (share ∷ shares) =
    (from ≤ share.place) × (share.place < to) × (0 < share.node.0)
    × Rise (share.place + 1) to shares

-- the shares of so many names, each of which takes certain entries
pub record AreShares (t : Tree) (count : ℕ) (takes : ℕ → List Entry) (shares : List Share)
    : Type 0 where
  pub rise : Rise 0 count shares
  pub lead : (place : ℕ) → Leads t (takes place) (node_for shares place)

abbrev pub is_below : ℕ → Share → Bool
is_below place share = nat_lt share.place place

abbrev pub is_above : ℕ → Share → Bool
is_above place share = nat_lt place share.place

-- a share put in its place, where it stands for the one that is there
abbrev pub with_share : Share → List Share → List Share
with_share share shares =
    filter (is_below share.place) shares ++ share ∷ filter (is_above share.place) shares

-- a share is of one of so many names, and its node lies below the root
pub record IsShareIn (t : Tree) (count : ℕ) (share : Share) : Type 0 where
  pub place : share.place < count
  pub below : 0 < share.node.0
  pub within : share.node.0 < length t.paths

-- what shares say of a path at a place: the paths of those there, one behind another
abbrev pub said : Tree → List Share → ℕ → List Entry
said t [] place = []
said t (share ∷ shares) place =
    (if share.place == place then path_at t share.node else []) ++ said t shares place

-- shares in any order, which together say what each name takes
pub record Say (t : Tree) (count : ℕ) (takes : ℕ → List Entry) (shares : List Share)
    : Type 0 where
  pub within : All (IsShareIn t count) shares
  pub say : (place : ℕ) → said t shares place ≡ takes place

-- the name at a share's place takes the share's path too
abbrev pub with_path : Tree → Share → (ℕ → List Entry) → ℕ → List Entry
with_path t share takes place =
    if share.place == place then takes place ++ path_at t share.node else takes place

-- ---- lists in one block

-- so many lists: these, and then empty ones
abbrev pub with_nones : List (List Share) → ℕ → List (List Share)
with_nones lists count = lists ++ replicate (count - length lists) []

-- the shares that stand in a span
abbrev pub spanned : List Share → Span → List Share
spanned shares span = slice_range shares span.from span.to

pub record IsSpanIn (shares : List Share) (span : Span) : Type 0 where
  pub rise : span.from ≤ span.to
  pub within : span.to ≤ length shares
