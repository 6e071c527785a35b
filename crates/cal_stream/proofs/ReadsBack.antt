-- The canonical text of records reads back as them.
use Rattle.std.proofs.Common.{◌≡◌, ◌≤◌, ◌^◌, ◌∙◌, ℕ, Bool, true, false, ◌&&◌, List, [], ◌∷◌, ◌++◌}
use Rattle.std.proofs.Common.{length, fold, refl, sym, ap, subst, arith, if◌then◌else◌}
use Rattle.std.specs.Prelude.{◌==◌, codes}
use Rattle.std.specs.List.{AllByRecursion}
use Rattle.std.proofs.lemmas.Bool.{and_parts}
use Rattle.std.proofs.lemmas.Bool.Decides.{Decides-eqb}
use Rattle.std.proofs.lemmas.List.{append_assoc, append-nil}
use Rattle.cal_context.specs.Lists.{IsFront}
use Rattle.cal_context.proofs.ListLemmas.{IsFront-refl, IsFront-trans}
use Rattle.cal_line.specs.FirstFault.{after_lines}
use Rattle.cal_line.specs.Lines.{lines_of}
use Rattle.cal_value.specs.declared.record.Rec.{Rec}
use Rattle.cal_value.specs.declared.record.Records.{Records}
use Rattle.cal_write.specs.CanonicalText.{canonical_text, ends, globals_text, record_text}
use Rattle.cal_write.specs.CanonicalText.{rows_text}
use Rattle.cal_write.specs.Nodes.{Node, built_in, needed_by_record, nodes, with_record}
use Rattle.cal_write.proofs.PlaceLemmas.{fold-front}
use Rattle.cal_read.specs.Nodes.{Named}
use Rattle.cal_read.specs.Stream.{IsStreamOf, Stream, line_step, no_lines}
use Rattle.cal_stream.specs.Readable.{AreHeld, AreReadable}
use Rattle.cal_stream.proofs.Begin.{begins}
use Rattle.cal_stream.proofs.Knows.{Knows}
use Rattle.cal_stream.proofs.Needed.{length-front}
use Rattle.cal_stream.proofs.Premises.{IsGoodRecord, good-record, good-records}
use Rattle.cal_stream.proofs.Records.{ends-all, reads-globals, reads-row}
use Rattle.cal_stream.proofs.Steps.{Reads, reads-more, reads-nothing}

-- ---- rows

front-record : (ns : List Node) (r : Rec) → IsFront ns (with_record ns r)
front-record ns r = fold-front ns (needed_by_record r)

front-records : (ns : List Node) (rows : List Rec) → IsFront ns (fold with_record ns rows)
front-records ns [] = IsFront-refl ns
front-records ns (r ∷ rows) = IsFront-trans ns (with_record ns r)
    (fold with_record (with_record ns r) rows) (front-record ns r)
    (front-records (with_record ns r) rows)

record AreRowsRead (ns : List Node) (s : Stream) (rows : List Rec) : Type 0 where
  nodes : List Named
  reads : Reads s (rows_text ns rows) (record s { nodes = nodes; rows = s.rows ++ rows })
  knows : Knows (fold with_record ns rows) nodes

reads-rows : (rows : List Rec) (ns : List Node) (s : Stream) → Knows ns s.nodes
    → AllByRecursion IsGoodRecord rows → length (fold with_record ns rows) ≤ 2 ^ 64
    → AreRowsRead ns s rows
reads-rows [] ns s k are room = record {
  nodes = s.nodes;
  reads = subst (λ (l : List Rec). Reads s [] (record s { rows = l })) (sym (append-nil s.rows))
      (reads-nothing s);
  knows = k;
}
reads-rows (r ∷ rows) ns s k are room =
    let now = with_record ns r in
    let less = length-front now (fold with_record now rows) (front-records now rows) in
    let one = reads-row ns s r k are.0 (omega arith) in
    let mid : Stream = record s { nodes = one.nodes; rows = s.rows ++ r ∷ [] } in
    let rest = reads-rows rows now mid one.knows are.1 room in
    let end : Stream = record s { nodes = rest.nodes; rows = (s.rows ++ r ∷ []) ++ rows } in
    record {
      nodes = rest.nodes;
      reads = subst (λ (l : List Rec). Reads s (rows_text ns (r ∷ rows))
          (record s { nodes = rest.nodes; rows = l })) (append_assoc s.rows (r ∷ []) rows)
          (reads-more s mid end (record_text (codes "ctx") ns r)
          (rows_text now rows) one.reads rest.reads);
      knows = rest.knows;
    }

-- ---- globals

none-there : {A : Type 0} (xs : List A) → length xs ≡ 0 → [] ≡ xs
none-there [] h = refl
none-there (x ∷ xs) h = absurd (omega arith)

record AreGlobalsRead (ns : List Node) (s : Stream) (g : Rec) : Type 0 where
  nodes : List Named
  reads : Reads s (globals_text ns g) (record s { nodes = nodes; globals = g })

-- globals that begin empty
read-globals : (ns : List Node) (s : Stream) (g : Rec) → Knows ns s.nodes → IsGoodRecord g
    → length (with_record ns g) ≤ 2 ^ 64
    → s.globals ≡ record { paths = []; imms = [] } → AreGlobalsRead ns s g
read-globals ns s g k is room empty = by ((length (ends g) == 0) && (length g.imms == 0)) refl
  where
    text : Bool → List ℕ
    text b = if b then [] else record_text (codes "globals") ns g

    by : (b : Bool) → ((length (ends g) == 0) && (length g.imms == 0)) ≡ b → AreGlobalsRead ns s g
    by true none =
        let parts = and_parts (length (ends g) == 0) (length g.imms == 0) none in
        let no_paths = (Decides-eqb (length (ends g)) 0).0 parts.0 in
        let no_imms = (Decides-eqb (length g.imms) 0).0 parts.1 in
        let same_paths = none-there (ends g) no_paths ∙ ends-all g.paths is.paths in
        let same_imms = none-there g.imms no_imms in
        let same : s.globals ≡ g = empty
        ∙ (λ j. record { paths = same_paths j; imms = same_imms j }) in
        record {
          nodes = s.nodes;
          reads = subst (λ (b : Bool). Reads s (text b) (record s { globals = g })) (sym none)
              (subst (λ (h : Rec). Reads s [] (record s { globals = h })) same (reads-nothing s));
        }
    by false some =
        let line = reads-globals ns s g k is room in
        record {
          nodes = line.nodes;
          reads = subst (λ (b : Bool). Reads s (text b)
              (record s { nodes = line.nodes; globals = g })) (sym some)
              (subst (λ (h : Rec). Reads s (record_text (codes "globals") ns g)
              (record s {
                nodes = line.nodes;
                globals = record { paths = h.paths ++ g.paths; imms = h.imms ++ g.imms };
              }))
              empty line.reads);
        }

-- ---- the law

pub reads-back : (rs : Records) → AreHeld rs → AreReadable rs → IsStreamOf (canonical_text rs) rs
reads-back rs held are =
    let less = length-front (nodes rs.rows) (with_record (nodes rs.rows) rs.globals)
    (front-record (nodes rs.rows) rs.globals) in
    let ids = held.ids in
    let rows = reads-rows rs.rows built_in no_lines begins
    (good-records rs.rows held.rows are.rows) (omega arith) in
    let mid : Stream = record {
      nodes = rows.nodes;
      rows = rs.rows;
      globals = record { paths = []; imms = [] };
    } in
    let globals = read-globals (nodes rs.rows) mid rs.globals rows.knows
    (good-record rs.globals held.globals are.globals) held.ids refl in
    let end : Stream = record { nodes = globals.nodes; rows = rs.rows; globals = rs.globals } in
    let whole = reads-more no_lines mid end (rows_text built_in rs.rows)
    (globals_text (nodes rs.rows) rs.globals) rows.reads globals.reads in
    record {
      nodes = globals.nodes;
      stream = ap (λ (l : List ℕ). after_lines line_step no_lines (lines_of l))
          (sym (append-nil (canonical_text rs))) ∙ whole [];
    }
