-- What every run from a blank sheet keeps: blocks lie one after the other inside
-- the used part, and each join is what it makes of its children as they stand.
-- Assumes nothing.
use Rattle.std.proofs.Common.{◌≡◌, ℕ, ◌+◌, ◌-◌, ◌<◌, ◌≤◌, true, not, ◌&&◌, leb, ◌≢◌, List, [], ◌∷◌, map, length, get_or, Some, None, Option, sym, refl, ap, ◌∙◌, subst, ⊎_elim, arith, below_more}
use lib.ListN.{length-map}
use Rattle.std.specs.List.{AllByRecursion}
use Rattle.std.specs.Option.{option_or}
use Rattle.std.proofs.lemmas.List.{length-set, get_or-set_same, get_or-set_other}
use Rattle.std.proofs.lemmas.List.Edits.{length-paste}
use Rattle.std.proofs.lemmas.Bool.{and_parts, leb-true, cases_eq}
use Rattle.std.proofs.lemmas.Bool.Decides.{nat_tests}
use Rattle.keys.specs.declared.Relation.{Relation}
use Rattle.stats.specs.declared.columns.ColumnStatistics.{ColumnStatistics}
use Rattle.std.specs.List.{list_all}
use Rattle.stats.specs.Trim.{trimmed, Ceiling}
use Rattle.stats.proofs.Trims.{trim_ceiling}
use Rattle.questions.specs.declared.types.JoinType.{JoinType}
use Rattle.questions.specs.declared.types.NullEquality.{NullEquality}
use Rattle.questions.specs.declared.types.KeyPair.{KeyPair}
use Rattle.questions.specs.declared.figures.Figure.{Figure}
use Rattle.questions.specs.Questions.{Question}
use Rattle.sheet.specs.declared.Node.{Node}
use Rattle.sheet.specs.declared.shorts.Short.{Short}
use Rattle.sheet.specs.declared.operators.Operator.{Operator}
use Rattle.sheet.specs.declared.operators.Operator.TheVariants as op
use Rattle.sheet.specs.declared.refusals.Refusal.{Refusal}
use Rattle.sheet.specs.declared.refusals.Refusal.TheVariants as refusal
use Rattle.sheet.specs.Shorts.{listed, kept_as, no_key, no_pair}
use Rattle.sheet.specs.Sheets.{Sheet, no_node, node_at, block, table_of, table_at}
use Rattle.sheet.specs.Calls.{Order, lay, join, cross, limit, union, group, Call, order, cut, children, operator_of}
use Rattle.sheet.specs.Made.{Made, joined}
use Rattle.sheet.specs.Causes.{no_node_memory, short_nodes, block_inside, stands, in_limits, columns_sound, fit_child, count_fits, keys_inside, width_of, width_fits, columns_fit, made, early_refusal, order_refusal, cut_refusal}
use Rattle.sheet.specs.Steps.{with_node, cut_to, settled, step}
use Rattle.sheet.specs.Laws.{Reached, start, next}
use Rattle.sheet.proofs.Refused.{unless_none}
use Rattle.sheet.proofs.BlockLists.{block_stays, block_new, listed_kept, all_made}
use Rattle.sheet.proofs.Widths.{made_fits, made_wide}

abbrev pub nth : {K : Type 0} → Sheet K → ℕ → Node
nth s i = get_or s.nodes i no_node

abbrev pub end : Node → ℕ
end node = node.place + node.width

-- a node holds what was made, trimmed
pub record Holds {K : Type 0} (columns : List (ColumnStatistics K)) (node : Node) (m : Made K) : Type 0 where
  pub rows : node.rows ≡ m.rows
  pub bytes : node.bytes ≡ m.bytes
  pub figure : node.figure ≡ m.figure
  pub same_columns : block columns node ≡ map (trimmed m.rows) m.columns

module _ {K : Type 0} (estimate : Question K → Option Figure) where
  -- the join at place i has children below it, and holds what it makes of them
  pub record JoinHolds (s : Sheet K) (i : ℕ) (t : JoinType) (rule : NullEquality) (l r : ℕ) (on : Short KeyPair) : Type 0 where
    pub left_from : 1 ≤ l
    pub left_below : l ≤ i
    pub right_from : 1 ≤ r
    pub right_below : r ≤ i
    pub holds : Holds s.columns (nth s i) (joined estimate t rule (listed on) (table_at s l) (table_at s r))

  abbrev JoinAt : Sheet K → ℕ → Operator → Type 0
  JoinAt s i op.Lay = Unit {0}
  JoinAt s i (op.Join t rule l r on) = JoinHolds s i t rule l r on
  JoinAt s i (op.Cross l r) = Unit {0}
  JoinAt s i (op.Limit c skip fetch) = Unit {0}
  JoinAt s i (op.Union cs) = Unit {0}
  JoinAt s i (op.Group mode sets extras c by) = Unit {0}

  pub record Fits (s : Sheet K) (i : ℕ) : Type 0 where
    pub ceiling : AllByRecursion (Ceiling (nth s i).rows) (block s.columns (nth s i))
    pub joins : (t : JoinType) (rule : NullEquality) (l r : ℕ) (on : Short KeyPair) → (nth s i).operator ≡ op.Join t rule l r on → JoinHolds s i t rule l r on

  pub record Sound (s : Sheet K) : Type 0 where
    pub counted : s.head.count ≤ length s.nodes
    pub within : s.head.used ≤ length s.columns
    pub ends : (i : ℕ) → i < s.head.count → end (nth s i) ≤ s.head.used
    pub rising : (j : ℕ) → j < s.head.count → (i : ℕ) → i ≤ j → end (nth s i) ≤ end (nth s j)
    pub fits : (i : ℕ) → i < s.head.count → Fits s i

  pub blank_sound : (s : Sheet K) → s.head.count ≡ 0 → s.head.used ≡ 0 → Sound s
  blank_sound s c u = record {
    counted = omega (arith, c);
    within = omega (arith, u);
    ends = λ i h. absurd (omega (arith, c));
    rising = λ j h i k. absurd (omega (arith, c));
    fits = λ i h. absurd (omega (arith, c));
  }

  -- ---- one node more
  module _ (s : Sheet K) (h : Sound s) (operator : Operator) (m : Made K) (room : s.head.count < length s.nodes) (space : s.head.used + length m.columns ≤ length s.columns) where
    abbrev fresh : Node
    fresh = record { rows = m.rows; bytes = m.bytes; place = s.head.used; width = length m.columns; figure = m.figure; operator = operator }

    abbrev grown : Sheet K
    grown = with_node operator m s

    abbrev put : List (ColumnStatistics K)
    put = map (trimmed m.rows) m.columns

    older : (i : ℕ) → i < s.head.count → nth s i ≡ nth grown i
    older i l = let ne : i ≢ s.head.count = omega arith in sym (get_or-set_other s.nodes s.head.count i fresh no_node ne)

    newest : fresh ≡ nth grown s.head.count
    newest = sym (get_or-set_same s.nodes s.head.count fresh no_node room)

    old_block : (i : ℕ) → i < s.head.count → block grown.columns (nth s i) ≡ block s.columns (nth s i)
    old_block i l = block_stays s.columns put s.head.used (length m.columns) (nth s i).place (nth s i).width (h.ends i l) h.within

    new_block : block grown.columns fresh ≡ put
    new_block = block_new s.columns put s.head.used (length m.columns) (length-map m.columns (trimmed m.rows)) h.within

    -- a node that stood says the same of its table
    pub old_table : (n : ℕ) → 1 ≤ n → n ≤ s.head.count → table_at grown n ≡ table_at s n
    old_table n f t =
        let e = older (n - 1) (omega arith) in
        let b = old_block (n - 1) (omega arith) in
        ap (table_of grown.columns) (sym e) ∙ (λ i. record { rows = (nth s (n - 1)).rows; bytes = (nth s (n - 1)).bytes; columns = b i })

    old_holds : (i : ℕ) → i < s.head.count → (a b : Made K) → a ≡ b → Holds s.columns (nth s i) a → Holds grown.columns (nth grown i) b
    old_holds i l a b e k =
        subst (Holds grown.columns (nth grown i)) e
        (subst (λ (node : Node). Holds grown.columns node a) (older i l)
        (record { rows = k.rows; bytes = k.bytes; figure = k.figure; same_columns = old_block i l ∙ k.same_columns }))

    old_fits : (i : ℕ) → i < s.head.count → Fits grown i
    old_fits i l =
        let f = h.fits i l in
        record {
          ceiling = subst (λ (node : Node). AllByRecursion (Ceiling node.rows) (block grown.columns node)) (older i l) (subst (AllByRecursion (Ceiling (nth s i).rows)) (sym (old_block i l)) f.ceiling);
          joins = λ t rule a b on e.
              let k = f.joins t rule a b on (ap (λ (node : Node). node.operator) (older i l) ∙ e) in
              record {
                left_from = k.left_from;
                left_below = k.left_below;
                right_from = k.right_from;
                right_below = k.right_below;
                holds =
                    let x = old_table a k.left_from (omega (arith, k.left_below)) in
                    let y = old_table b k.right_from (omega (arith, k.right_below)) in
                    old_holds i l _ _ (λ j. joined estimate t rule (listed on) (sym x j) (sym y j)) k.holds;
              };
        }

    new_holds : Holds grown.columns (nth grown s.head.count) m
    new_holds = subst (λ (node : Node). Holds grown.columns node m) newest (record { rows = refl; bytes = refl; figure = refl; same_columns = new_block })

    new_ceiling : AllByRecursion (Ceiling (nth grown s.head.count).rows) (block grown.columns (nth grown s.head.count))
    new_ceiling =
        subst (λ (node : Node). AllByRecursion (Ceiling node.rows) (block grown.columns node)) newest
        (subst (AllByRecursion (Ceiling m.rows)) (sym new_block) (all_made (Ceiling m.rows) (trimmed m.rows) (trim_ceiling m.rows) m.columns))

    ends_more : (i : ℕ) → i < s.head.count + 1 → end (nth grown i) ≤ s.head.used + length m.columns
    ends_more =
        below_more (λ i. end (nth grown i) ≤ s.head.used + length m.columns) s.head.count
        (λ i l. omega (arith, h.ends i l, ap end (older i l)))
        (omega (arith, ap end newest))

    rising_more : (j : ℕ) → j < s.head.count + 1 → (i : ℕ) → i ≤ j → end (nth grown i) ≤ end (nth grown j)
    rising_more =
        below_more (λ j. (i : ℕ) → i ≤ j → end (nth grown i) ≤ end (nth grown j)) s.head.count
        (λ j l i le. omega (arith, ap end (older i (omega arith)), ap end (older j l), h.rising j l i le))
        (λ i le. omega (arith, ap end newest, ends_more i (omega arith)))

    grown_sound : Fits grown s.head.count → Sound grown
    grown_sound f = record {
      counted = simp length-set (omega arith);
      within = omega (arith, length-paste s.columns s.head.used put (length m.columns) space (omega (arith, length-map m.columns (trimmed m.rows))));
      ends = ends_more;
      rising = rising_more;
      fits = below_more (Fits grown) s.head.count old_fits f;
    }

    -- an operator that is no join asks only for the ceiling
    pub other_sound : ((t : JoinType) (rule : NullEquality) (l r : ℕ) (on : Short KeyPair) → operator ≡ op.Join t rule l r on → ⊥) → Sound grown
    other_sound none =
        grown_sound (record { ceiling = new_ceiling; joins = λ t rule a b on e. absurd (none t rule a b on (ap (λ (node : Node). node.operator) newest ∙ e)) })

    -- a join asks for its children, as they stand
    pub joined_sound : (t : JoinType) (rule : NullEquality) (l r : ℕ) (pairs : List KeyPair) → operator ≡ op.Join t rule l r (kept_as no_pair pairs) → length pairs ≤ 16 → (1 ≤ l) × (l ≤ s.head.count) → (1 ≤ r) × (r ≤ s.head.count) → m ≡ joined estimate t rule pairs (table_at s l) (table_at s r) → Sound grown
    joined_sound t rule l r pairs is few x y e =
        let same : m ≡ joined estimate t rule (listed (kept_as no_pair pairs)) (table_at grown l) (table_at grown r) =
        e ∙ (λ i. joined estimate t rule (sym (listed_kept no_pair pairs few) i) (sym (old_table l x.0 x.1) i) (sym (old_table r y.0 y.1) i)) in
        let held : JoinHolds grown s.head.count t rule l r (kept_as no_pair pairs) =
        record { left_from = x.0; left_below = x.1; right_from = y.0; right_below = y.1; holds = subst (Holds grown.columns (nth grown s.head.count)) same new_holds } in
        grown_sound (record {
          ceiling = new_ceiling;
          joins = λ u rule' a b on q. subst (JoinAt grown s.head.count) (sym is ∙ ap (λ (node : Node). node.operator) newest ∙ q) held;
        })

  -- ---- an order that is accepted
  pub record Accepted (relation : K → K → Relation) (s : Sheet K) (o : Order K) : Type 0 where
    pub room : s.head.count < length s.nodes
    pub fit : list_all (fit_child relation s) (children o) ≡ true
    pub counts : count_fits o ≡ true
    pub space : s.head.used + length (made estimate s o).columns ≤ length s.columns
    pub wide : length (made estimate s o).columns ≡ width_of s o
    pub blocks : list_all (λ n. block_inside s (node_at s n)) (children o) ≡ true

  first_none : (a b : Option Refusal) → option_or a b ≡ None → a ≡ None
  first_none None b e = refl
  first_none (Some r) b e = cc

  pub accepted : (relation : K → K → Relation) (s : Sheet K) (o : Order K) → order_refusal relation estimate s o ≡ None → Accepted relation s o
  accepted relation s o e =
      let a = unless_none (not (no_node_memory s)) refusal.NodeMemory _ (first_none (early_refusal relation s o) _ e) in
      let b = unless_none (list_all (fit_child relation s) (children o)) refusal.Child _ a.1 in
      let c = unless_none (count_fits o) refusal.Count _ b.1 in
      let d = unless_none (keys_inside s o) refusal.KeyIndex _ c.1 in
      let w = unless_none (width_fits s o) refusal.Width _ d.1 in
      let f = unless_none (columns_fit s o) refusal.ColumnMemory _ w.1 in
      record {
        room = grind (arith, nat_tests);
        fit = b.0;
        counts = c.0;
        space = made_fits estimate s o f.0;
        wide = made_wide estimate s o f.0;
        blocks = (and_parts (leb (s.head.used + width_of s o) (length s.columns)) (list_all (λ n. block_inside s (node_at s n)) (children o)) f.0).1;
      }

  child_stands : (relation : K → K → Relation) (s : Sheet K) (n : ℕ) → fit_child relation s n ≡ true → (1 ≤ n) × (n ≤ s.head.count)
  child_stands relation s n e =
      let a = (and_parts (stands s n) (in_limits (node_at s n) && columns_sound relation s (node_at s n)) e).0 in
      let b = and_parts (leb 1 n) (leb n s.head.count) a in
      (leb-true 1 n b.0, leb-true n s.head.count b.1)

  both_stand : (relation : K → K → Relation) (s : Sheet K) (l r : ℕ) → list_all (fit_child relation s) (l ∷ r ∷ []) ≡ true → ((1 ≤ l) × (l ≤ s.head.count)) × ((1 ≤ r) × (r ≤ s.head.count))
  both_stand relation s l r e =
      let a = and_parts (fit_child relation s l) (list_all (fit_child relation s) (r ∷ [])) e in
      let b = and_parts (fit_child relation s r) true a.1 in
      (child_stands relation s l a.0, child_stands relation s r b.0)

  order_sound : (relation : K → K → Relation) (s : Sheet K) → Sound s → (o : Order K) → Accepted relation s o → Sound (with_node (operator_of o) (made estimate s o) s)
  order_sound relation s h (lay rows bytes columns) a = other_sound s h op.Lay _ a.room a.space (λ t rule l r on e. cc)
  order_sound relation s h (join t rule l r pairs) a =
      let c = both_stand relation s l r a.fit in
      joined_sound s h _ _ a.room a.space t rule l r pairs refl (leb-true (length pairs) 16 a.counts) c.0 c.1 refl
  order_sound relation s h (cross l r) a = other_sound s h (op.Cross l r) _ a.room a.space (λ t rule l r on e. cc)
  order_sound relation s h (limit c skip fetch) a = other_sound s h (op.Limit c skip fetch) _ a.room a.space (λ t rule l r on e. cc)
  order_sound relation s h (union cs) a = other_sound s h (op.Union (kept_as 0 cs)) _ a.room a.space (λ t rule l r on e. cc)
  order_sound relation s h (group mode sets extras c keys) a = other_sound s h (op.Group mode sets extras c (kept_as no_key keys)) _ a.room a.space (λ t rule l r on e. cc)

  -- ---- cuts
  -- a cut leaves nodes and columns as they are
  cut_fits : (s : Sheet K) (n i : ℕ) → Fits s i → Fits (cut_to n s) i
  cut_fits s n i f = record {
    ceiling = f.ceiling;
    joins = λ t rule l r on e.
        let k = f.joins t rule l r on e in
        record { left_from = k.left_from; left_below = k.left_below; right_from = k.right_from; right_below = k.right_below; holds = k.holds };
  }

  cut_some : (s : Sheet K) → Sound s → (n : ℕ) → 1 ≤ n → n ≤ s.head.count → (cut_to n s).head.used ≡ end (nth s (n - 1)) → Sound (cut_to n s)
  cut_some s h n f t u = record {
    counted = omega (arith, h.counted);
    within = omega (arith, u, h.within, h.ends (n - 1) (omega arith));
    ends = λ i l. omega (arith, u, h.rising (n - 1) (omega arith) i (omega arith));
    rising = λ j l. h.rising j (omega arith);
    fits = λ i l. cut_fits s n i (h.fits i (omega arith));
  }

  cut_sound : (s : Sheet K) → Sound s → (n : ℕ) → cut_refusal s n ≡ None → Sound (cut_to n s)
  cut_sound s h n e =
      let a = unless_none (not (short_nodes s)) refusal.NodeMemory _ e in
      let b = unless_none (leb n s.head.count) refusal.Child _ a.1 in
      let t = leb-true n s.head.count b.0 in
      ⊎_elim
      (λ z. blank_sound (cut_to n s) z (grind (arith, nat_tests)))
      (λ z. cut_some s h n (omega arith) t (grind (arith, nat_tests)))
      (cases_eq n 0)

  -- ---- runs
  settled_sound : (r : Option Refusal) (s t : Sheet K) → Sound s → (r ≡ None → Sound t) → Sound (settled r s t).sheet
  settled_sound (Some r) s t h k = h
  settled_sound None s t h k = k refl

  pub step_sound : (relation : K → K → Relation) (c : Call K) (s : Sheet K) → Sound s → Sound (step relation estimate c s).sheet
  step_sound relation (order o) s h = settled_sound (order_refusal relation estimate s o) s _ h (λ e. order_sound relation s h o (accepted relation s o e))
  step_sound relation (cut n) s h = settled_sound (cut_refusal s n) s (cut_to n s) h (cut_sound s h n)

  pub reached_sound : (relation : K → K → Relation) (s : Sheet K) → Reached relation estimate s → Sound s
  reached_sound relation s (start b) = blank_sound s b.no_node b.no_column
  reached_sound relation s (next c p r) = step_sound relation c p (reached_sound relation p r)
