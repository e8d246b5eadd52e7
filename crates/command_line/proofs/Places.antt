-- Where an option is among the arguments of the program.
use Rattle.std.proofs.Common.{◌≡◌, ◌∙◌, ◌<◌, ◌&&◌, ℕ, Bool, true, false, not, zero, suc, List, [], ◌∷◌, map, length}
use Rattle.std.proofs.Common.{Some, refl, sym, ap, inl, inr, arith, codes}
use Rattle.std.proofs.lemmas.List.{length-map}
use Rattle.std.proofs.Math.ListN.{get_or-map}
use Rattle.std.specs.List.{list_any, slice_index_or}
use Rattle.std.specs.Str.{bytes_eq}
use Rattle.std.proofs.lemmas.Slice.Eq.{bytes_eq-Decides}
use Rattle.clap.specs.Built.{IsAuto}
use Rattle.clap.specs.Facts.{args_of}
use Rattle.clap.specs.Walk.{Rule, Text, rule_of}
use Rattle.clap.specs.declared.builder.arg.Arg.{Arg}
use Rattle.clap.specs.declared.builder.command.Command.{Command}
use Rattle.clap.specs.declared.builder.value_parser.ValueParser.{ValueParser}

-- only the rule at this place has this id
abbrev pub is_only_at : Text → ℕ → List Rule → Bool
is_only_at id k [] = true
is_only_at id zero (r ∷ rs) = not (list_any (λ (r : Rule). bytes_eq r.id id) rs)
is_only_at id (suc k) (r ∷ rs) = not (bytes_eq r.id id) && is_only_at id k rs

none_in : (id : Text) (rs : List Rule) → not (list_any (λ (r : Rule). bytes_eq r.id id) rs) ≡ true
    → (j : ℕ) (d : Rule) → j < length rs → bytes_eq (slice_index_or rs j d).id id ≡ true → ⊥
none_in id [] none j d lt same = absurd (omega arith)
none_in id (r ∷ rs) none j d lt same = go (bytes_eq r.id id) refl (λ none. none_in id rs none) j lt same
  where
    go : (b : Bool) → bytes_eq r.id id ≡ b
        → (not (list_any (λ (r : Rule). bytes_eq r.id id) rs) ≡ true → (j : ℕ) (d : Rule) → j < length rs
        → bytes_eq (slice_index_or rs j d).id id ≡ true → ⊥)
        → (j : ℕ) → j < length (r ∷ rs) → bytes_eq (slice_index_or (r ∷ rs) j d).id id ≡ true → ⊥
    go true is rest j lt same = let bad : false ≡ true = rw is at none in cc
    go false is rest zero lt same = cc
    go false is rest (suc j) lt same = rest (rw is at none) j d (omega arith) same

only_at : (id : Text) (k : ℕ) (rs : List Rule) → is_only_at id k rs ≡ true
    → (j : ℕ) (d : Rule) → j < length rs → bytes_eq (slice_index_or rs j d).id id ≡ true → j ≡ k
only_at id k [] only j d lt same = absurd (omega arith)
only_at id zero (r ∷ rs) only zero d lt same = refl
only_at id zero (r ∷ rs) only (suc j) d lt same = absurd (none_in id rs only j d (omega arith) same)
only_at id (suc k) (r ∷ rs) only j d lt same = go (bytes_eq r.id id) refl (λ only. only_at id k rs only) j lt same
  where
    go : (b : Bool) → bytes_eq r.id id ≡ b
        → (is_only_at id k rs ≡ true → (j : ℕ) (d : Rule) → j < length rs
        → bytes_eq (slice_index_or rs j d).id id ≡ true → j ≡ k)
        → (j : ℕ) → j < length (r ∷ rs) → bytes_eq (slice_index_or (r ∷ rs) j d).id id ≡ true → j ≡ suc k
    go true is rest j lt same = let bad : false ≡ true = rw is at only in cc
    go false is rest zero lt same = cc
    go false is rest (suc j) lt same = ap suc (rest (rw is at only) j d (omega arith) same)

-- the argument at a place, and no other, has this id; its values pass this parser
pub record IsPlaced (old : Command) (place : ℕ) (d : Arg) (rule : Rule) (parser : ValueParser) : Type 0 where
  pub within : place < length (args_of old)
  pub same : rule_of (slice_index_or (args_of old) place d) ≡ rule
  pub only : (j : ℕ) (e : Arg) → j < length (args_of old)
      → bytes_eq (slice_index_or (args_of old) j e).id.now (slice_index_or (args_of old) place d).id.now ≡ true
      → j ≡ place
  pub named : (slice_index_or (args_of old) place d).id.now ≡ [] → ⊥
  pub own : IsAuto (slice_index_or (args_of old) place d) → ⊥
  pub reads : (slice_index_or (args_of old) place d).value_parser ≡ Some parser
  pub case : (slice_index_or (args_of old) place d).ignore_case ≡ false

differ : (a b : Text) → bytes_eq a b ≡ false → a ≡ b → ⊥
differ a b apart same = let one : bytes_eq a b ≡ true = (bytes_eq-Decides a b).1 same in cc

-- the options are these rules, and the one at the place is this
pub placed : (old : Command) (rules : List Rule) (place : ℕ) (d : Arg) (rule : Rule) (parser : ValueParser)
    → map rule_of (args_of old) ≡ rules → place < length rules → slice_index_or rules place (rule_of d) ≡ rule
    → is_only_at rule.id place rules ≡ true → bytes_eq rule.id [] ≡ false → bytes_eq rule.id (codes "help") ≡ false
    → bytes_eq rule.id (codes "version") ≡ false → rule.parser ≡ Some parser → rule.ignore_case ≡ false
    → IsPlaced old place d rule parser
placed old rules place d rule parser all lt there only some no_help no_version parsed case =
    let same : rule_of (slice_index_or (args_of old) place d) ≡ rule =
    sym (get_or-map rule_of (args_of old) place d)
    ∙ (ap (λ (rs : List Rule). slice_index_or rs place (rule_of d)) all ∙ there) in
    let long : length rules ≡ length (args_of old) = ap length (sym all) ∙ length-map (args_of old) rule_of in
    let id : (slice_index_or (args_of old) place d).id.now ≡ rule.id = ap (λ (r : Rule). r.id) same in
    record {
      within = omega arith;
      same = same;
      only = λ j e under here.
          let other : (slice_index_or (args_of old) j e).id.now ≡ (slice_index_or rules j (rule_of e)).id =
          ap (λ (r : Rule). r.id) (sym (get_or-map rule_of (args_of old) j e)
          ∙ ap (λ (rs : List Rule). slice_index_or rs j (rule_of e)) all) in
          only_at rule.id place rules only j (rule_of e) (omega arith) (rw (← other, ← id) here);
      named = λ e. differ rule.id [] some (sym id ∙ e);
      own = λ auto. elim auto [
        | inl h ↦ differ rule.id (codes "help") no_help (sym id ∙ h)
        | inr h ↦ differ rule.id (codes "version") no_version (sym id ∙ h)
      ];
      reads = ap (λ (r : Rule). r.parser) same ∙ parsed;
      case = ap (λ (r : Rule). r.ignore_case) same ∙ case;
    }
