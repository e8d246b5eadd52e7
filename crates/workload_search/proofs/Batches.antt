-- Sequences that are tried, one more or some more after them.
use Rattle.std.proofs.Common.{◌≡◌, ℕ, List, [], ◌∷◌, ◌++◌, length, map, Bool, true, false, cond, refl, sym}
use Rattle.std.proofs.Common.{subst, ap, ap₂, ◌∙◌, arith, append-nil, inl, inr}
use Rattle.std.specs.Prelude.{if◌then◌else◌, ◌⊎◌}
use Rattle.std.specs.List.{filter}
use Rattle.std.proofs.lemmas.List.{length-map, map-append}
use Rattle.std.proofs.lemmas.List.Elements.{All-append, All-push, filter-append}
use Rattle.arrayvec.specs.ArrayVec.{ArrayVec}
use Rattle.question_model.specs.Workloads.{Search}
use Rattle.question_model.specs.Verdict.{IsVerdict}
use Rattle.workload_search.specs.Tallies.{Tried, tried_as, IsTally, HasRoom, HaveRoom, is_passing}
use Rattle.workload_search.specs.Tries.{IsBatch, BatchHasRoom, HaveRoomFor, items_of, passing_of}
use Rattle.workload_search.specs.declared.batch.Batch.{Batch}
use Rattle.question_model.specs.declared.verdict.Verdict.{Verdict}
use Rattle.workload_search.proofs.Counted.{places_of, IsRight}

pub passing_join : (tried others : List Tried) → passing_of (tried ++ others) ≡ passing_of tried ++ passing_of others
passing_join tried others =
    ap (map places_of) (filter-append (λ (t : Tried). is_passing t.verdict) tried others)
    ∙ map-append places_of (filter (λ t. is_passing t.verdict) tried) (filter (λ t. is_passing t.verdict) others)

kept_join : (keeps : Bool) (tried others : List Tried)
    → (if keeps then passing_of (tried ++ others) else [])
    ≡ (if keeps then passing_of tried else []) ++ (if keeps then passing_of others else [])
kept_join true tried others = passing_join tried others
kept_join false tried others = refl

-- what is kept of one sequence
abbrev pub kept_of : Bool → Verdict → List ℕ → List (List ℕ)
kept_of keeps v places = if keeps then (if is_passing v then places ∷ [] else []) else []

kept_one : (keeps : Bool) (v : Verdict) (places : List ℕ)
    → (if keeps then passing_of (tried_as places v ∷ []) else []) ≡ kept_of keeps v places
kept_one keeps v places = by (is_passing v) keeps
  where
    by : (b k : Bool) → (if k then map places_of (cond b (tried_as places v ∷ []) []) else [])
        ≡ (if k then (if b then places ∷ [] else []) else [])
    by true true = refl
    by true false = refl
    by false true = refl
    by false false = refl

kept_true : (keeps : Bool) (v : Verdict) (places : List ℕ) → keeps ≡ true → is_passing v ≡ true
    → kept_of keeps v places ≡ places ∷ []
kept_true keeps v places keep passes =
    ap₂ (λ (a b : Bool). if a then (if b then places ∷ [] else []) else []) keep passes

kept_none : (keeps : Bool) (v : Verdict) (places : List ℕ) → (keeps ≡ false) ⊎ (is_passing v ≡ false)
    → kept_of keeps v places ≡ []
kept_none keeps v places (inl keep) =
    ap (λ (a : Bool). if a then (if is_passing v then places ∷ [] else []) else []) keep
kept_none keeps v places (inr passes) =
    ap (λ (b : Bool). if keeps then (if b then places ∷ [] else []) else []) passes ∙ by keeps
  where
    by : (k : Bool) → ◌≡◌ {A = List (List ℕ)} (if k then [] else []) []
    by true = refl
    by false = refl

verdict_at : (s : Search) (places longer : List ℕ) (v : Verdict) → places ≡ longer → IsVerdict s longer v
    → IsVerdict s places v
verdict_at s places longer v whole right = subst (λ (xs : List ℕ). IsVerdict s xs v) (sym whole) right

module _ {A : Type 0} (s : Search) (keeps : Bool) where
  pub batch_none : (batch : Batch A) → IsTally [] batch.tally → batch.passing.items ≡ [] → IsBatch s keeps [] batch
  batch_none batch tally none = record {
    tried = [];
    are = refl;
    right = λ k d within. absurd (omega arith);
    tally = tally;
    passing = ap (map items_of) none ∙ by keeps;
  }
    where
      by : (keeps : Bool) → [] ≡ (if keeps then passing_of [] else [])
      by true = refl
      by false = refl

  pub batch_joined : (sequences others : List (List ℕ)) (old later new : Batch A) (is : IsBatch s keeps sequences old)
      (after : IsBatch s keeps others later) → IsTally (is.tried ++ after.tried) new.tally
      → new.passing.items ≡ old.passing.items ++ later.passing.items → IsBatch s keeps (sequences ++ others) new
  batch_joined sequences others old later new is after tally more = record {
    tried = is.tried ++ after.tried;
    are = map-append places_of is.tried after.tried ∙ ap₂ (λ (a b : List (List ℕ)). a ++ b) is.are after.are;
    right = All-append (IsRight s) is.tried after.tried is.right after.right;
    tally = tally;
    passing = ap (map items_of) more
        ∙ (map-append items_of old.passing.items later.passing.items
        ∙ (ap₂ (λ (a b : List (List ℕ)). a ++ b) is.passing after.passing
        ∙ sym (kept_join keeps is.tried after.tried)));
  }

  pub batch_added : (sequences : List (List ℕ)) (places : List ℕ) (v : Verdict) (old new : Batch A)
      (is : IsBatch s keeps sequences old) → IsVerdict s places v
      → IsTally (is.tried ++ tried_as places v ∷ []) new.tally
      → map items_of new.passing.items ≡ map items_of old.passing.items ++ kept_of keeps v places
      → IsBatch s keeps (sequences ++ places ∷ []) new
  batch_added sequences places v old new is right tally more = record {
    tried = is.tried ++ tried_as places v ∷ [];
    are = map-append places_of is.tried (tried_as places v ∷ [])
        ∙ ap (λ (a : List (List ℕ)). a ++ places ∷ []) is.are;
    right = All-push (IsRight s) is.tried (tried_as places v) is.right right;
    tally = tally;
    passing = more
        ∙ (ap₂ (λ (a b : List (List ℕ)). a ++ b) is.passing (sym (kept_one keeps v places))
        ∙ sym (kept_join keeps is.tried (tried_as places v ∷ [])));
  }

  -- a sequence that passes is kept where they are to be
  pub batch_kept : (sequences : List (List ℕ)) (places : ArrayVec ℕ) (longer : List ℕ) (v : Verdict)
      (old new : Batch A) (is : IsBatch s keeps sequences old) → places.items ≡ longer → IsVerdict s longer v
      → IsTally (is.tried ++ tried_as places.items v ∷ []) new.tally → keeps ≡ true → is_passing v ≡ true
      → new.passing.items ≡ old.passing.items ++ places ∷ [] → IsBatch s keeps (sequences ++ longer ∷ []) new
  batch_kept sequences places longer v old new is whole right tally keep passes more =
      subst (λ (xs : List ℕ). IsBatch s keeps (sequences ++ xs ∷ []) new) whole
      (batch_added sequences places.items v old new is (verdict_at s places.items longer v whole right) tally
      (ap (map items_of) more
      ∙ (map-append items_of old.passing.items (places ∷ [])
      ∙ ap (λ (a : List (List ℕ)). map items_of old.passing.items ++ a)
      (sym (kept_true keeps v places.items keep passes)))))

  -- no other is
  pub batch_left : (sequences : List (List ℕ)) (places longer : List ℕ) (v : Verdict) (old new : Batch A)
      (is : IsBatch s keeps sequences old) → places ≡ longer → IsVerdict s longer v
      → IsTally (is.tried ++ tried_as places v ∷ []) new.tally → (keeps ≡ false) ⊎ (is_passing v ≡ false)
      → new.passing.items ≡ old.passing.items → IsBatch s keeps (sequences ++ longer ∷ []) new
  batch_left sequences places longer v old new is whole right tally none same =
      subst (λ (xs : List ℕ). IsBatch s keeps (sequences ++ xs ∷ []) new) whole
      (batch_added sequences places v old new is (verdict_at s places longer v whole right) tally
      (ap (map items_of) same
      ∙ (sym (append-nil (map items_of old.passing.items))
      ∙ ap (λ (a : List (List ℕ)). map items_of old.passing.items ++ a) (sym (kept_none keeps v places none)))))

  tried_long : (sequences : List (List ℕ)) (batch : Batch A) (is : IsBatch s keeps sequences batch)
      → length is.tried ≡ length sequences
  tried_long sequences batch is = sym (length-map is.tried places_of) ∙ ap length is.are

  -- a tally has room where its batch has
  pub tally_room : (more : ℕ) (batch : Batch A) → BatchHasRoom s keeps more batch → HasRoom more batch.tally
  tally_room more batch has = record {
    tried = has.is.tried;
    is = has.is.tally;
    room = let long = tried_long has.sequences batch has.is in let room = has.room in omega arith;
  }

pub tallies_room : {A : Type 0} (batch later : Batch A) → HaveRoomFor batch later → HaveRoom batch.tally later.tally
tallies_room batch later has = record {
  tried = has.is.tried;
  others = has.after.tried;
  is = has.is.tally;
  after = has.after.tally;
  room =
      let a = tried_long has.s has.keeps has.sequences batch has.is in
      let b = tried_long has.s has.keeps has.others later has.after in
      let room = has.room in omega arith;
}
