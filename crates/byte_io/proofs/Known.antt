-- Bytes that are read or written in several calls, where they are known.
use Rattle.std.proofs.Common.{◌≡◌, ℕ, ◌-◌, List, [], ◌++◌, length, take, drop, Option, Some, None, refl, sym, ap, ◌∙◌}
use Rattle.std.proofs.Common.{append_assoc, append-nil, arith}
use Rattle.std.proofs.lemmas.List.{take-append-drop}
use Rattle.std.proofs.lemmas.Grind.{elements}
use Rattle.std.specs.Io.KnownBytes.{Appends, Consumes, Keeps}

pub consumes-none : (a : Option (List ℕ)) → Consumes a a []
consumes-none None = tt
consumes-none (Some xs) = refl

pub consumes-both : (a b c : Option (List ℕ)) (xs ys : List ℕ) → Consumes a b xs → Consumes b c ys
    → Consumes a c (xs ++ ys)
consumes-both None b c xs ys first second = tt
consumes-both (Some a) None c xs ys first second = absurd first
consumes-both (Some a) (Some b) None xs ys first second = absurd second
consumes-both (Some a) (Some b) (Some c) xs ys first second = first ∙ ap (λ zs. xs ++ zs) second
    ∙ sym (append_assoc xs ys c)

pub consumes-kept : (a b c : Option (List ℕ)) (xs : List ℕ) → Consumes a b xs → Keeps b c → Consumes a c xs
consumes-kept None b c xs first second = tt
consumes-kept (Some a) None c xs first second = absurd first
consumes-kept (Some a) (Some b) None xs first second = absurd second
consumes-kept (Some a) (Some b) (Some c) xs first second = first ∙ ap (λ zs. xs ++ zs) (sym second)

pub appends-none : (a : Option (List ℕ)) → Appends a a []
appends-none None = tt
appends-none (Some xs) = sym (append-nil xs)

pub appends-both : (a b c : Option (List ℕ)) (xs ys : List ℕ) → Appends a b xs → Appends b c ys → Appends a c (xs ++ ys)
appends-both None b c xs ys first second = tt
appends-both (Some a) None c xs ys first second = absurd first
appends-both (Some a) (Some b) None xs ys first second = absurd second
appends-both (Some a) (Some b) (Some c) xs ys first second = second ∙ ap (λ zs. zs ++ ys) first ∙ append_assoc a xs ys

pub appends-kept : (a b c : Option (List ℕ)) (xs : List ℕ) → Appends a b xs → Keeps b c → Appends a c xs
appends-kept None b c xs first second = tt
appends-kept (Some a) None c xs first second = absurd first
appends-kept (Some a) (Some b) None xs first second = absurd second
appends-kept (Some a) (Some b) (Some c) xs first second = second ∙ first

-- the seam moves n elements on
pub seam-moved : (text front rest : List ℕ) (n : ℕ) → text ≡ front ++ rest
    → text ≡ (front ++ take n rest) ++ take (length rest - n) (drop n rest)
seam-moved text front rest n e =
    let behind : take (length rest - n) (drop n rest) ≡ drop n rest = grind (arith, elements) in
    e ∙ ap (λ xs. front ++ xs) (sym (take-append-drop n rest)) ∙ sym (append_assoc front (take n rest) (drop n rest))
    ∙ ap (λ xs. (front ++ take n rest) ++ xs) (sym behind)
