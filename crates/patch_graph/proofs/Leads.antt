-- The block writes that a set begins with.
use Rattle.std.proofs.Common.{◌≡◌, ◌≢◌, ℕ, ◌<◌, ◌≤◌, List, length, bit_and, arith, sym, subst, ap, ◌∙◌, inl, inr}
use Rattle.std.specs.Prelude.{◌↔◌, slice_index}
use Rattle.std.specs.List.{Contains}
use Rattle.std.proofs.lemmas.Bool.{cases_lt}
use Rattle.patch_sets.specs.Sets.{Has, ids_of}
use Rattle.patch_sets.specs.Ends.{IsLowest, IsHighest, IsDifference}
use Rattle.patch_sets.specs.Iter.{most_ids}
use Rattle.patch_sets.specs.Leading.{ComesBefore}
use Rattle.patch_sets.specs.Writes.{AreRuns}
use Rattle.patch_sets.proofs.Bits.{eq_or_not}
use Rattle.patch_sets.proofs.Ids.{from_ids_of, to_ids_of}
use Rattle.patch_sets.proofs.Parts.{runs_append}
use Rattle.patch_graph.specs.Leads.{IsLead}
use Rattle.patch_graph.specs.declared.graph.Lead.{Lead}
use Rattle.patch_graph.proofs.Ahead.{is_ahead, not_other, rest_begins, ahead_split, rest_less}
use Rattle.patch_graph.proofs.Fronts.{from_and}

all_words : (id : ℕ) → id < 128 → id < most_ids
unfolding most_ids
all_words id inside = inside

-- the ids below a stop
pub early_ids : (set early stop : ℕ) → ids_of most_ids early ≡ ids_of stop set → ((id : ℕ) → Has set id → id < 128)
    → ((id : ℕ) → Has early id → id < 128) → (id : ℕ) → Has early id ↔ (Has set id × (id < stop))
early_ids set early stop same words early_words id = (
  λ is. let it = from_ids_of stop set id (subst (λ xs. Contains xs id) same
      (to_ids_of most_ids early id (all_words id (early_words id is)) is)) in (it.1, it.0),
  λ it. (from_ids_of most_ids early id (subst (λ xs. Contains xs id) (sym same) (to_ids_of stop set id it.1 it.0))).1,
)

module _ (homes : List ℕ) (set early stop last block mask later others ahead rest : ℕ)
    (words : (id : ℕ) → Has set id → id < 128) (known : (id : ℕ) → Has set id → id < length homes)
    (are_early : (id : ℕ) → Has early id ↔ (Has set id × (id < stop))) (highest : IsHighest early last)
    (home : slice_index homes last ≡ block)
    (of_block : (id : ℕ) → Has mask id ↔ ((id < length homes) × (slice_index homes id ≡ block)))
    (are_later : IsDifference set early later) (are_others : IsDifference later mask others)
    (are_ahead : (id : ℕ) → Has ahead id ↔ ((id < 128) × ComesBefore others id))
    (is_rest : IsDifference set ahead rest) where
  last_known : Has set last
  last_known = ((are_early last).0 highest.inside).0

  from_others : (id : ℕ) → Has others id → Has set id × (slice_index homes id ≢ block) × (stop ≤ id)
  from_others id is =
      let it = (are_others.exactly id).0 is in
      let at = (are_later.exactly id).0 it.0 in (
        at.0,
        (λ e. it.1 ((of_block id).1 (known id at.0, e))),
        (elim (cases_lt id stop) [
          | inl less ↦ absurd (at.1 ((are_early id).1 (at.0, less)))
          | inr more ↦ more
        ]),
      )

  last_ahead : Has (bit_and set ahead) last
  last_ahead = is_ahead set others ahead rest words are_ahead is_rest last last_known (λ other is.
      let past = (from_others other is).2 in
      let before = ((are_early last).0 highest.inside).1 in
      omega (arith, past, before))

  ends : (id : ℕ) → Has (bit_and set ahead) id → last ≤ id → slice_index homes id ≡ block
  ends id is from = elim (eq_or_not (slice_index homes id) block) [
    | inl e ↦ e
    | inr ne ↦
        let member = (from_and set ahead id is).0 in
        elim (eq_or_not id last) [
          | inl same ↦ absurd (ne (ap (slice_index homes) same ∙ home))
          | inr other ↦ absurd (not_other set others ahead rest words are_ahead is_rest id is
              ((are_others.exactly id).1 (
                (are_later.exactly id).1 (
                  member,
                  λ again. let most = highest.most id again in
                      omega (arith, most, from, other),
                ),
                λ masked. ne ((of_block id).0 masked).1,
              )))
        ]
  ]

  begins : (id : ℕ) → IsLowest rest id → slice_index homes id ≢ block
  begins id first = (from_others id (rest_begins set others ahead rest words are_ahead is_rest
      (λ q is. (from_others q is).0) id first)).1

  pub lead_is : (lead : Lead) → lead.ids ≡ bit_and set ahead → lead.rest ≡ rest → IsLead homes set lead
  lead_is lead ids others_left = record {
    runs = λ ws vs a b. runs_append homes set (bit_and set ahead) rest last block
        (ahead_split set others ahead rest words are_ahead is_rest (length homes))
        last_ahead (known last last_known) ends (λ id is. known id ((is_rest.exactly id).0 is).0) begins ws vs
        (subst (λ s. AreRuns homes s ws) ids a) (subst (λ s. AreRuns homes s vs) others_left b);
    known = λ id is. (from_and set ahead id (subst (λ s. Has s id) ids is)).0;
    left = λ id is. ((is_rest.exactly id).0 (subst (λ s. Has s id) others_left is)).0;
    smaller = subst (λ s. s < set) (sym others_left) (rest_less set others ahead rest words are_ahead is_rest last
        last_ahead);
  }
