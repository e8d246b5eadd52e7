-- The ids of a set that are still to be written, while its writes are cut.
use Rattle.std.proofs.Common.{◌≡◌, ◌≢◌, ℕ, ◌<◌, ◌≤◌, List, [], ◌∷◌, ◌++◌, length, get_or, bit_and, arith, refl, sym}
use Rattle.std.proofs.Common.{subst, ap, ◌∙◌, inl, inr, length-append, append_assoc, append-nil}
use Rattle.std.specs.Prelude.{◌↔◌, slice_index}
use Rattle.std.proofs.lemmas.List.{length-map, get_or_push}
use Rattle.patch_sets.specs.Sets.{Has, has, ids_of}
use Rattle.patch_sets.specs.Ends.{IsLowest, IsDifference}
use Rattle.patch_sets.specs.Leading.{ComesBefore}
use Rattle.patch_sets.specs.declared.write.BlockWrite.{BlockWrite}
use Rattle.patch_sets.proofs.Bits.{eq_or_not, none_in_empty}
use Rattle.patch_sets.proofs.Ids.{from_ids_of, to_ids_of, ids_ascend}
use Rattle.patch_sets.proofs.Lists.{one_ascending}
use Rattle.patch_sets.proofs.Stepped.{ids_none}
use Rattle.patch_sets.proofs.Writes.{AreCut, ids_carried, carried_push, cut_push}
use Rattle.crash_model.specs.declared.patches.Patch.{Patch}
use Rattle.crash_model.specs.Patches.{homes_of}
use Rattle.patch_graph.proofs.Ahead.{is_ahead, not_other, rest_begins, ahead_split, rest_less}
use Rattle.patch_graph.proofs.Fronts.{in_and, from_and}

-- The writes carry the set's first ids, and those that are left come after. The last write is of another block than
-- the first id that is left.
pub record IsRest (homes : List ℕ) (set left : ℕ) (writes : List BlockWrite) : Type 0 where
  pub in_order : ids_carried homes writes ++ ids_of (length homes) left ≡ ids_of (length homes) set
  pub cut : AreCut homes writes
  pub known : (id : ℕ) → Has left id → id < length homes
  pub independent : (front : List BlockWrite) (last : BlockWrite) (id : ℕ) → writes ≡ front ++ last ∷ []
      → IsLowest left id
      → last.block ≢ slice_index homes id

-- what ends a list
last_same : (ws front : List BlockWrite) (w v : BlockWrite) → ws ++ w ∷ [] ≡ front ++ v ∷ [] → w ≡ v
last_same ws front w v e =
    let long : length front ≡ length ws = omega (
      arith,
      ap length e,
      length-append ws (w ∷ []),
      length-append front (v ∷ []),
    ) in
    sym (get_or_push ws w w (length ws) refl) ∙ (ap (λ (xs : List BlockWrite). get_or xs (length ws) w) e
    ∙ get_or_push front v w (length ws) long)

pub rest_start : (patches : List Patch) (set ids : ℕ) → ((id : ℕ) → Has ids id ↔ (id < length patches))
    → IsRest (homes_of patches) set (bit_and set ids) []
rest_start patches set ids all = record {
  in_order = one_ascending (ids_of n (bit_and set ids)) (ids_of n set) (ids_ascend n (has (bit_and set ids)))
      (ids_ascend n (has set))
      (λ z is. let it = from_ids_of n (bit_and set ids) z is in to_ids_of n set z it.0 (from_and set ids z it.1).0)
      (λ z is. let it = from_ids_of n set z is in to_ids_of n (bit_and set ids) z it.0
      (in_and set ids z it.1 ((all z).1 (omega (arith, long, it.0)))));
  cut = tt;
  known = λ id is. let low = (all id).0 (from_and set ids id is).1 in omega (arith, long, low);
  independent = λ front last id e low. absurd (let count = ap length e in
      omega (arith, count, length-append front (last ∷ [])));
}
  where
    n : ℕ
    n = length (homes_of patches)

    long : length (homes_of patches) ≡ length patches
    long = length-map patches (λ p. p.block)

pub rest_none : (homes : List ℕ) (set left : ℕ) (writes : List BlockWrite) → IsRest homes set left writes → left ≡ 0
    → ids_carried homes writes ≡ ids_of (length homes) set
rest_none homes set left writes so_far none =
    let nothing : ids_of (length homes) left ≡ [] = ids_none (length homes) left
    (λ q below is. none_in_empty q (subst (λ s. Has s q) none is)) in
    sym (append-nil (ids_carried homes writes)) ∙ (ap (λ (xs : List ℕ). ids_carried homes writes ++ xs) (sym nothing)
    ∙ so_far.in_order)

-- ---- a run more: the ids that are left before the first of another block

module _ (homes : List ℕ) (set left : ℕ) (writes : List BlockWrite) (so_far : IsRest homes set left writes)
    (few : length homes ≤ 128) (id : ℕ) (low : IsLowest left id)
    (mask others ahead rest : ℕ) (of_block : (q : ℕ) → Has mask q
    ↔ ((q < length homes) × (slice_index homes q ≡ slice_index homes id)))
    (are_others : IsDifference left mask others)
    (are_ahead : (q : ℕ) → Has ahead q ↔ ((q < 128) × ComesBefore others q))
    (is_rest : IsDifference left ahead rest) where
  from_others : (q : ℕ) → Has others q → Has left q × (slice_index homes q ≢ slice_index homes id)
  from_others q is = let it = (are_others.exactly q).0 is in (it.0, λ e. it.1 ((of_block q).1 (so_far.known q it.0, e)))

  to_others : (q : ℕ) → Has left q → slice_index homes q ≢ slice_index homes id → Has others q
  to_others q is other = (are_others.exactly q).1 (is, λ member. other ((of_block q).0 member).1)

  within_words : (q : ℕ) → Has left q → q < 128
  within_words q is = let inside = so_far.known q is in omega (arith, inside, few)

  run_has_first : Has (bit_and left ahead) id
  run_has_first = is_ahead left others ahead rest within_words are_ahead is_rest id low.inside (λ other is.
      let it = from_others other is in
      let least = low.least other it.0 in
      let ne : other ≢ id = λ e. it.1 (ap (slice_index homes) e) in
      omega (arith, least, ne))

  run_of_block : (q : ℕ) → Has (bit_and left ahead) q → (q < length homes)
      × (slice_index homes q ≡ slice_index homes id)
  run_of_block q is =
      let it = from_and left ahead q is in (
        so_far.known q it.0,
        elim (eq_or_not (slice_index homes q) (slice_index homes id)) [
          | inl e ↦ e
          | inr ne ↦ absurd (not_other left others ahead rest within_words are_ahead is_rest q is (to_others q it.0 ne))
        ],
      )

  -- the first of the rest is of another block
  rest_apart : (q : ℕ) → IsLowest rest q → slice_index homes id ≢ slice_index homes q
  rest_apart q first same = (from_others q (rest_begins left others ahead rest within_words are_ahead is_rest
      (λ o is. (from_others o is).0) q first)).1 (sym same)

  pub rest_next : (w : BlockWrite) → w.block ≡ slice_index homes id → w.ids ≡ bit_and left ahead
      → IsRest homes set rest (writes ++ w ∷ [])
  rest_next w home ids = record {
    in_order = ap (λ (xs : List ℕ). xs ++ ids_of (length homes) rest)
        (carried_push homes writes w ∙ ap (λ (s : ℕ). ids_carried homes writes ++ ids_of (length homes) s) ids)
        ∙ (append_assoc (ids_carried homes writes) (ids_of (length homes) (bit_and left ahead))
        (ids_of (length homes) rest)
        ∙ (ap (λ (xs : List ℕ). ids_carried homes writes ++ xs)
        (sym (ahead_split left others ahead rest within_words are_ahead is_rest (length homes)))
        ∙ so_far.in_order));
    cut = cut_push homes writes w so_far.cut (λ front last e same. so_far.independent front last id e low (same ∙ home))
        record {
          own = λ q is. let it = run_of_block q (subst (λ s. Has s q) ids is) in (it.0, it.1 ∙ sym home);
          some = λ empty. none_in_empty id (subst (λ s. Has s id) (sym ids ∙ empty) run_has_first);
        };
    known = λ q is. so_far.known q ((is_rest.exactly q).0 is).0;
    independent = λ front last q e first same. rest_apart q first
        (sym home ∙ (ap (λ (v : BlockWrite). v.block) (last_same writes front w last e) ∙ same));
  }

  pub rest_smaller : rest < left
  rest_smaller = rest_less left others ahead rest within_words are_ahead is_rest id run_has_first
