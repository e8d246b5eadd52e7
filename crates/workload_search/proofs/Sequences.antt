-- Which sequences are tried: each beginning followed by one operation.
use Rattle.std.proofs.Common.{◌≡◌, ◌≢◌, ℕ, zero, suc, ◌<◌, ◌≤◌, List, [], ◌∷◌, ◌++◌, length, arith, refl}
use Rattle.std.proofs.Common.{sym, ap, subst, ◌∙◌, inl, inr, length-append, append_assoc, append-nil}
use Rattle.std.specs.List.{All}
use Rattle.std.proofs.lemmas.List.Elements.{All-push, All-nil, All-cons}
use Rattle.question_model.specs.Workloads.{Search, IsWorkload, IsBeginning, IsRefusedFor, Fails}
use Rattle.crash_model.specs.declared.refusal.Refusal.{Refusal}
use Rattle.question_model.specs.Verdict.{IsAccepted, IsRefusal}
use Rattle.workload_search.proofs.Accepted.{accepted_front}

pub record IsTriedSequence (s : Search) (places : List ℕ) : Type 0 where
  pub front : List ℕ
  pub place : ℕ
  pub whole : front ++ place ∷ [] ≡ places
  pub beginning : IsBeginning s front
  pub among : place < length s.pool

-- ---- the last operation

pub record HasLast (places : List ℕ) : Type 0 where
  pub front : List ℕ
  pub place : ℕ
  pub whole : front ++ place ∷ [] ≡ places

pub last_of : (places : List ℕ) → places ≢ [] → HasLast places
last_of [] some = absurd (some refl)
last_of (x ∷ []) some = record { front = []; place = x; whole = refl }
last_of (x ∷ (y ∷ ys)) some =
    let rest = last_of (y ∷ ys) (λ e. cc) in
    record { front = x ∷ rest.front; place = rest.place; whole = ap (λ (zs : List ℕ). x ∷ zs) rest.whole }

not_empty : (front : List ℕ) (place : ℕ) → front ++ place ∷ [] ≢ []
not_empty front place e = let long = ap length e in omega (arith, length-append front (place ∷ []))

one_last : (a b : List ℕ) (x y : ℕ) → a ++ x ∷ [] ≡ b ++ y ∷ [] → (a ≡ b) × (x ≡ y)
one_last [] [] x y e = (refl, cc)
one_last [] (z ∷ b) x y e = absurd (not_empty b y (let rest : [] ≡ b ++ y ∷ [] = cc in sym rest))
one_last (z ∷ a) [] x y e = absurd (not_empty a x (let rest : a ++ x ∷ [] ≡ [] = cc in rest))
one_last (z ∷ a) (w ∷ b) x y e =
    let head : z ≡ w = cc in
    let rest : a ++ x ∷ [] ≡ b ++ y ∷ [] = cc in
    let it = one_last a b x y rest in
    (ap (λ (v : ℕ). v ∷ a) head ∙ ap (λ (vs : List ℕ). w ∷ vs) it.0, it.1)

all_front : (P : ℕ → Type 0) (front rest : List ℕ) → All P (front ++ rest) → All P front
all_front P [] rest each = All-nil P
all_front P (x ∷ front) rest each = All-cons P x front (each zero x (omega arith))
    (all_front P front rest (λ k d within. each (suc k) d (omega arith)))

all_last : (P : ℕ → Type 0) (front : List ℕ) (place : ℕ) → All P (front ++ place ∷ []) → P place
all_last P [] place each = each zero place (omega arith)
all_last P (x ∷ front) place each = all_last P front place (λ k d within. each (suc k) d (omega arith))

-- ---- workloads are tried

front_workload : (s : Search) (front : List ℕ) (place : ℕ) → IsWorkload s (front ++ place ∷ []) → front ≢ []
    → IsWorkload s front
front_workload s front place w some = record {
  some = some;
  most = let most = w.most in omega (arith, length-append front (place ∷ []));
  among = all_front (λ place. place < length s.pool) front (place ∷ []) w.among;
  accepted = accepted_front s front (place ∷ []) w.accepted;
  safe = λ first rest filled more e. w.safe first (rest ++ place ∷ []) filled (not_empty rest place)
      (sym (append_assoc first rest (place ∷ [])) ∙ ap (λ (xs : List ℕ). xs ++ place ∷ []) e);
}

front_beginning : (s : Search) (front : List ℕ) (place : ℕ) → IsWorkload s (front ++ place ∷ []) → IsBeginning s front
front_beginning s [] place w = inl refl
front_beginning s (x ∷ xs) place w =
    let some : x ∷ xs ≢ [] = λ e. cc in
    inr (
      front_workload s (x ∷ xs) place w some,
      w.safe (x ∷ xs) (place ∷ []) some (λ e. cc) refl,
    )

pub workload_tried : (s : Search) (places : List ℕ) → IsWorkload s places → IsTriedSequence s places
workload_tried s places w =
    let last = last_of places w.some in
    let it : IsWorkload s (last.front ++ last.place ∷ []) = subst (IsWorkload s) (sym last.whole) w in
    record {
      front = last.front;
      place = last.place;
      whole = last.whole;
      beginning = front_beginning s last.front last.place it;
      among = all_last (λ place. place < length s.pool) last.front last.place it.among;
    }

-- ---- what is tried and accepted is a workload

pub beginning_among : (s : Search) (front : List ℕ) → IsBeginning s front → All (λ place. place < length s.pool) front
beginning_among s front (inl none) = subst (All (λ place. place < length s.pool)) (sym none)
    (All-nil (λ place. place < length s.pool))
beginning_among s front (inr w) = w.0.among

-- the operations of a beginning are accepted, if nothing is refused before the first of them
pub beginning_accepted : (s : Search) (front : List ℕ) → IsAccepted s [] → IsBeginning s front → IsAccepted s front
beginning_accepted s front begins (inl none) = subst (IsAccepted s) (sym none) begins
beginning_accepted s front begins (inr w) = w.0.accepted

pub tried_among : (s : Search) (places : List ℕ) → IsTriedSequence s places
    → All (λ place. place < length s.pool) places
tried_among s places it = subst (All (λ place. place < length s.pool)) it.whole
    (All-push (λ place. place < length s.pool) it.front it.place (beginning_among s it.front it.beginning) it.among)

safe_before : (s : Search) (front first rest : List ℕ) → IsBeginning s front → first ≢ [] → first ++ rest ≡ front
    → ¬ (Fails s first)
safe_before s front first rest (inl none) some e fails =
    some (let long = ap length (e ∙ none) in
    let no_length : length first ≡ 0 = omega (arith, length-append first rest) in nothing first no_length)
  where
    nothing : (xs : List ℕ) → length xs ≡ 0 → xs ≡ []
    nothing [] e = refl
    nothing (x ∷ xs) e = absurd (omega arith)
safe_before s front first [] (inr w) some e fails = w.1 (subst (Fails s) (sym (append-nil first) ∙ e) fails)
safe_before s front first (x ∷ xs) (inr w) some e fails = w.0.safe first (x ∷ xs) some (λ none. cc) e fails

pub tried_workload : (s : Search) (places : List ℕ) → IsTriedSequence s places → length places ≤ s.most
    → IsAccepted s places → IsWorkload s places
tried_workload s places it short accepted = record {
  some = λ none. not_empty it.front it.place (it.whole ∙ none);
  most = short;
  among = tried_among s places it;
  accepted = accepted;
  safe = λ first rest some more e.
      let last = last_of rest more in
      let parts = one_last (first ++ last.front) it.front last.place it.place
      (append_assoc first last.front (last.place ∷ [])
      ∙ (ap (λ (xs : List ℕ). first ++ xs) last.whole ∙ (e ∙ sym it.whole))) in
      safe_before s it.front first last.front it.beginning some parts.0;
}

-- ---- what is refused

pub refused_tried : (s : Search) (reason : Refusal) (places : List ℕ) → IsRefusedFor s reason places
    → IsTriedSequence s places
refused_tried s reason places is = record {
  front = is.front;
  place = is.place;
  whole = is.whole;
  beginning = is.beginning;
  among = is.among;
}

pub tried_refused : (s : Search) (reason : Refusal) (places : List ℕ) → IsTriedSequence s places
    → length places ≤ s.most → IsRefusal s places reason → IsRefusedFor s reason places
tried_refused s reason places it short is = record {
  front = it.front;
  place = it.place;
  whole = it.whole;
  beginning = it.beginning;
  most = short;
  among = it.among;
  fault = is.fault;
  refused = is.refused;
  because = is.because;
}
