-- What is added, said of the view of a struct.
use Rattle.std.proofs.Common.{◌≡◌, ℕ, List, subst}
use Rattle.json.specs.Written.{Written}
use Rattle.serde_json.specs.Data.{Data}
use Rattle.report.specs.Written.{Adds, AddsJson}

pub text_viewed : {X : Type 0} (text : X → List ℕ) {x y : X} {a b : List ℕ} → x ≡ y → Adds a b (text x)
    → Adds a b (text y)
text_viewed text {a = a} {b = b} e adds = subst (λ z. Adds a b (text z)) e adds

pub json_viewed : {X : Type 0} (json : X → Data) {x y : X} {a b : Written} → x ≡ y → AddsJson a b (json x)
    → AddsJson a b (json y)
json_viewed json {a = a} {b = b} e adds = subst (λ z. AddsJson a b (json z)) e adds
