-- What a call adds to a text, and to JSON.
use Rattle.std.specs.Prelude.{◌≡◌, ℕ, List, ◌∷◌, ◌++◌}
use Rattle.std.specs.List.{flat_map}
use Rattle.json.specs.Token.{Token, key}
use Rattle.json.specs.Tree.{json_tokens}
use Rattle.json.specs.Written.{Written}
use Rattle.serde_json.specs.Data.{Data}
use Rattle.serde_json.specs.Written.{outline}

-- the text is added
pub record Adds (old new text : List ℕ) : Type 0 where
  pub whole : new ≡ old ++ text

unfoldable pub tokens_of : Data → List Token
tokens_of d = json_tokens (outline d)

-- those of the fields of an object
unfoldable pub field_tokens : List (List ℕ × Data) → List Token
field_tokens fields = flat_map (λ f. key f.0 ∷ tokens_of f.1) fields

-- the tokens are added
pub record AddsTokens (old new : Written) (tokens : List Token) : Type 0 where
  pub whole : new.tokens ≡ old.tokens ++ tokens
  pub before : new.before ≡ old.before

-- those of a value are added
pub record AddsJson (old new : Written) (d : Data) : Type 0 where
  pub added : AddsTokens old new (tokens_of d)

-- and those of fields
pub record AddsFields (old new : Written) (fields : List (List ℕ × Data)) : Type 0 where
  pub added : AddsTokens old new (field_tokens fields)
