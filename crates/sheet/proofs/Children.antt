-- What the passed causes of 1 to 6 say of the memory and of the children. Assumes
-- nothing.
use Rattle.std.proofs.Common.{◌≡◌, ℕ, ◌+◌, ◌<◌, ◌≤◌, true, not, ◌&&◌, leb, List, ◌∷◌, length, take, Ok, Option, sym, ap, ◌∙◌, arith, rules}
use Rattle.std.specs.List.{list_all}
use Rattle.std.proofs.lemmas.Bool.{and_parts, leb-true}
use Rattle.std.proofs.lemmas.Bool.Decides.{nat_tests}
use Rattle.std.proofs.lemmas.List.{places, same_lists, length-take}
use Rattle.keys.specs.declared.Relation.{Relation}
use Rattle.stats.specs.declared.columns.ColumnStatistics.{ColumnStatistics}
use Rattle.stats.specs.Precisions.{at_most}
use Rattle.stats.specs.Limits.{max_count, max_node_bytes}
use Rattle.questions.specs.declared.figures.Figure.{Figure}
use Rattle.questions.specs.Questions.{Question}
use Rattle.sheet.specs.declared.Node.{Node}
use Rattle.sheet.specs.declared.refusals.Refusal.TheVariants as refusal
use Rattle.sheet.specs.Sheets.{Sheet, node_at, block}
use Rattle.sheet.specs.Calls.{Order, children}
use Rattle.sheet.specs.Causes.{no_node_memory, block_inside, stands, in_limits, columns_sound, fit_child, count_fits, keys_inside, width_of, same_widths, width_fits, columns_fit, max_width, made, early_refusal}
use Rattle.sheet.specs.Steps.{checked}
use Rattle.sheet.proofs.Refused.{passed, unless_none}
use Rattle.sheet.proofs.Widths.{block_length, made_wide}

-- an order that has none of the causes
pub record Early {K : Type 0} (relation : K → K → Relation) (s : Sheet K) (o : Order K) : Type 0 where
  pub room : s.head.count < length s.nodes
  pub space : s.head.used + width_of s o ≤ length s.columns
  pub narrow : width_of s o ≤ 64
  pub counts : count_fits o ≡ true
  pub fit : list_all (fit_child relation s) (children o) ≡ true
  pub blocks : list_all (λ n. block_inside s (node_at s n)) (children o) ≡ true
  pub wide : (estimate : Question K → Option Figure) → length (made estimate s o).columns ≡ width_of s o

-- a node that may be read as a child, whatever its number: its block lies in the
-- used part
pub record Readable {K : Type 0} (s : Sheet K) (node : Node) : Type 0 where
  pub rows : at_most max_count node.rows ≡ true
  pub below : node.place + node.width ≤ s.head.used
  pub wide : length (block s.columns node) ≡ node.width
  pub same : block (take s.head.used s.columns) node ≡ block s.columns node
  pub inside : (front : List (ColumnStatistics K)) → front ≡ take s.head.used s.columns → node.place + node.width ≤ length front
  pub long : (front : List (ColumnStatistics K)) → front ≡ take s.head.used s.columns → length (block front node) ≡ node.width

module _ {K : Type 0} (relation : K → K → Relation) (s : Sheet K) where
  pub early_passed : (o : Order K) → Ok tt ≡ checked (early_refusal relation s o) → Early relation s o
  early_passed o e =
      let a = unless_none (not (no_node_memory s)) refusal.NodeMemory _ (passed (early_refusal relation s o) e) in
      let b = unless_none (list_all (fit_child relation s) (children o)) refusal.Child _ a.1 in
      let c = unless_none (count_fits o) refusal.Count _ b.1 in
      let d = unless_none (keys_inside s o) refusal.KeyIndex _ c.1 in
      let w = unless_none (width_fits s o) refusal.Width _ d.1 in
      let f = unless_none (columns_fit s o) refusal.ColumnMemory _ w.1 in
      let p = and_parts (leb (s.head.used + width_of s o) (length s.columns)) (list_all (λ n. block_inside s (node_at s n)) (children o)) f.0 in
      record {
        room = grind (arith, nat_tests);
        space = leb-true (s.head.used + width_of s o) (length s.columns) p.0;
        narrow = leb-true (width_of s o) 64 (and_parts (same_widths s o) (leb (width_of s o) max_width) w.0).1;
        counts = c.0;
        fit = b.0;
        blocks = p.1;
        wide = λ estimate. made_wide estimate s o f.0;
      }

  -- the used part has the block of a node in it
  used_block : (node : Node) → node.place + node.width ≤ s.head.used → s.head.used ≤ length s.columns → block (take s.head.used s.columns) node ≡ block s.columns node
  used_block node h l = same_lists _ _ (search (rules, places)) (λ k x m. grind (arith, places))

  readable : (n : ℕ) (node : Node) → node ≡ node_at s n → s.head.used ≤ length s.columns → fit_child relation s n ≡ true → block_inside s (node_at s n) ≡ true → Readable s node
  readable n node is l f b =
      let a = (and_parts (stands s n) (in_limits (node_at s n) && columns_sound relation s (node_at s n)) f).1 in
      let c = (and_parts (in_limits (node_at s n)) (columns_sound relation s (node_at s n)) a).0 in
      let d = (and_parts (at_most max_count (node_at s n).rows) (at_most max_node_bytes (node_at s n).bytes && leb (node_at s n).width max_width) c).0 in
      let e : (node_at s n).place + (node_at s n).width ≤ s.head.used = leb-true ((node_at s n).place + (node_at s n).width) s.head.used b in
      let u : node.place + node.width ≤ s.head.used = omega (arith, ap (λ (x : Node). x.place) is, ap (λ (x : Node). x.width) is) in
      record {
        rows = ap (λ (x : Node). at_most max_count x.rows) is ∙ d;
        below = u;
        wide = block_length s node u l;
        same = used_block node u l;
        inside = λ front e. let f = ap length e in omega (arith, length-take s.head.used s.columns);
        long = λ front e. ap (λ d. length (block d node)) e ∙ ap length (used_block node u l) ∙ block_length s node u l;
      }

  module _ (o : Order K) (e : Early relation s o) where
    fits : s.head.used ≤ length s.columns
    fits = let h = e.space in omega arith

    -- the first child, and the second
    pub first_readable : (c : ℕ) (cs : List ℕ) → children o ≡ c ∷ cs → (node : Node) → node ≡ node_at s c → Readable s node
    first_readable c cs is node at =
        let f = and_parts (fit_child relation s c) (list_all (fit_child relation s) cs) (sym (ap (list_all (fit_child relation s)) is) ∙ e.fit) in
        let b = and_parts (block_inside s (node_at s c)) (list_all (λ n. block_inside s (node_at s n)) cs) (sym (ap (list_all (λ n. block_inside s (node_at s n))) is) ∙ e.blocks) in
        readable c node at fits f.0 b.0

    pub second_readable : (c d : ℕ) (cs : List ℕ) → children o ≡ c ∷ d ∷ cs → (node : Node) → node ≡ node_at s d → Readable s node
    second_readable c d cs is node at =
        let f = and_parts (fit_child relation s c) (list_all (fit_child relation s) (d ∷ cs)) (sym (ap (list_all (fit_child relation s)) is) ∙ e.fit) in
        let b = and_parts (block_inside s (node_at s c)) (list_all (λ n. block_inside s (node_at s n)) (d ∷ cs)) (sym (ap (list_all (λ n. block_inside s (node_at s n))) is) ∙ e.blocks) in
        let f2 = and_parts (fit_child relation s d) (list_all (fit_child relation s) cs) f.1 in
        let b2 = and_parts (block_inside s (node_at s d)) (list_all (λ n. block_inside s (node_at s n)) cs) b.1 in
        readable d node at fits f2.0 b2.0
