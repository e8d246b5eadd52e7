-- What `clap` promises of the values of an option.
use Rattle.std.proofs.Common.{◌≡◌, ◌∙◌, ◌<◌, ◌≤◌, ℕ, Bool, true, false, zero, suc, List, [], ◌∷◌, length, Option, Some}
use Rattle.std.proofs.Common.{None, refl, sym, ap, subst, inl, inr, arith}
use Rattle.std.specs.Prelude.{find, is_some, option_map, slice_get}
use Rattle.std.specs.Borrow.{Bor}
use Rattle.std.specs.List.{All, slice_index_or}
use Rattle.std.specs.Str.{bytes_eq}
use Rattle.std.proofs.lemmas.List.Elements.{All-get_or}
use Rattle.std.proofs.lemmas.Slice.Eq.{bytes_eq-Decides}
use Rattle.clap.specs.Built.{IsParsedFrom}
use Rattle.clap.specs.Facts.{Entry, EntryPasses, HasIn, PassesArg, WantsDefault, args_of, groups_of, least_values}
use Rattle.clap.specs.Facts.{parser_of, parser_of_value}
use Rattle.clap.specs.Matches.{found_of, matched_of, one_text}
use Rattle.clap.specs.Simple.{IsSimple}
use Rattle.clap.specs.Values.{Accepts, read_as, reading_of}
use Rattle.clap.specs.Walk.{Rule, Text, texts}
use Rattle.clap.specs.declared.builder.action.ArgAction.TheVariants.{Count, Set}
use Rattle.clap.specs.declared.builder.arg.Arg.{Arg}
use Rattle.clap.specs.declared.builder.command.Command.{Command}
use Rattle.clap.specs.declared.builder.command.Command.TheViews.{out-Command}
use Rattle.clap.specs.declared.builder.value_parser.Reading.{Reading}
use Rattle.clap.specs.declared.builder.value_parser.Reading.TheVariants.{AsWritten}
use Rattle.clap.specs.declared.builder.value_parser.ValueParser.{ValueParser}
use Rattle.clap.specs.declared.parser.matches.ArgMatches.{ArgMatches}
use Rattle.clap.specs.declared.parser.matches.MatchedArg.{MatchedArg}
use Rattle.clap.proofs.CallerLemmas.{default_present, entry_by_id, same_rules_by_id}
use Rattle.command_line.proofs.Places.{IsPlaced}

-- the first of some values, each of which holds of P
pub first_holds : (P : Text → Type 0) (how : Reading) (vs : List (Bor Text)) → how ≡ AsWritten → All (λ v. P v.now) vs
    → (t : Text) → option_map (λ s. read_as how s.now) (slice_get vs 0) ≡ Some t → P t
first_holds P how [] plain all t first = cc
first_holds P how (v ∷ vs) plain all t first =
    let read : Some v.now ≡ Some t = rw plain at first in
    let same : v.now ≡ t = cc in
    subst P same (All-get_or (λ (v : Bor Text). P v.now) (v ∷ vs) 0 v (omega arith) all)

has_first : (how : Reading) (vs : List (Bor Text)) → 0 < length vs
    → (t : Text) × (option_map (λ s. read_as how s.now) (slice_get vs 0) ≡ Some t)
has_first how [] lt = absurd (omega arith)
has_first how (v ∷ vs) lt = (read_as how v.now, refl)

is_among : (xs : List Entry) (id : Text) → HasIn xs id
    → is_some (option_map (λ (e : Entry). e.1) (find (λ (e : Entry). bytes_eq e.0.now id) xs)) ≡ true
is_among [] id has = absurd (omega (arith, has.1))
is_among (x ∷ xs) id has = go (bytes_eq x.0.now id) refl (λ rest. is_among xs id rest) has.0 has.1 has.2
  where
    go : (b : Bool) → bytes_eq x.0.now id ≡ b
        → (HasIn xs id
        → is_some (option_map (λ (e : Entry). e.1) (find (λ (e : Entry). bytes_eq e.0.now id) xs)) ≡ true)
        → (i : ℕ) → i < length (x ∷ xs)
        → ((d : Entry) → bytes_eq (slice_index_or (x ∷ xs) i d).0.now id ≡ true)
        → is_some (option_map (λ (e : Entry). e.1) (find (λ (e : Entry). bytes_eq e.0.now id) (x ∷ xs))) ≡ true
    go true is rest i lt at = rw is refl
    go false is rest zero lt at = let bad : bytes_eq x.0.now id ≡ true = at x in cc
    go false is rest (suc i) lt at = rw is (rest (i, omega arith, at))

-- an option that has a value by default takes one
pub record HasDefault (old : Command) (place : ℕ) (d : Arg) : Type 0 where
  pub wants : WantsDefault (slice_index_or (args_of old) place d)
  pub action : (slice_index_or (args_of old) place d).action ≡ Some Set
  pub whole : (slice_index_or (args_of old) place d).val_delim ≡ None
  pub one : 1 ≤ least_values (slice_index_or (args_of old) place d)

some_texts : (xs : List (Bor Text)) (t : Text) → texts xs ≡ t ∷ [] → 0 < length xs
some_texts [] t is = cc
some_texts (x ∷ xs) t is = omega arith

pub has_default : (old : Command) (place : ℕ) (d : Arg) (rule : Rule) (parser : ValueParser) (t : Text) → IsSimple old
    → IsPlaced old place d rule parser → rule.defaults ≡ t ∷ [] → rule.action ≡ Some Set → rule.range ≡ None
    → HasDefault old place d
has_default old place d rule parser t simple is usual set none =
    let own = simple.args place d is.within in
    let range : (slice_index_or (args_of old) place d).num_vals ≡ None = ap (λ (r : Rule). r.range) is.same ∙ none in
    record {
      wants = (own.default_ifs, some_texts _ t (ap (λ (r : Rule). r.defaults) is.same ∙ usual));
      action = ap (λ (r : Rule). r.action) is.same ∙ set;
      whole = own.delimiter;
      one = rw (range, least_values) (omega arith);
    }

module _ (old : Command) (m : ArgMatches) (p : IsParsedFrom old m) (globals : (out-Command old).has_globals ≡ false)
    (no_groups : groups_of p.built ≡ []) (place : ℕ) (d : Arg) (rule : Rule) (parser : ValueParser)
    (is : IsPlaced old place d rule parser) where
  abbrev id : Text
  id = (slice_index_or (args_of old) place d).id.now

  accepts : (w v : Text) → w ≡ id → PassesArg p.built w v → Accepts false parser v
  accepts w v key pass =
      let same : bytes_eq pass.1.id.now id ≡ true =
      subst (λ (u : Text). bytes_eq pass.1.id.now u ≡ true) key pass.4.0 in
      let s = same_rules_by_id old m p place d is.within is.only is.own pass.0 pass.1 pass.2 pass.3 same in
      let by : parser_of pass.1 ≡ parser = ap parser_of_value (s.parser parser is.reads) in
      subst (λ (b : Bool). Accepts b parser v) (s.ignore_case ∙ is.case)
      (subst (λ (q : ValueParser). Accepts pass.1.ignore_case q v) by pass.4.1)

  no_group : (e : Entry) → e.0.now ≡ id → EntryPasses p.built e → e.1.is_group ≡ true → ⊥
  no_group e key pass group = elim (pass.3 group) [
    | inl empty ↦ is.named (sym key ∙ empty)
    | inr lots ↦
        let bad : 0 < 0 = rw no_groups at lots in
        absurd (omega arith)
  ]

  -- the values that are found of the option
  pub values_pass : (x : MatchedArg) → matched_of (found_of m) id ≡ Some x
      → All (λ v. Accepts false parser v.now) x.vals.items × (x.reading ≡ reading_of parser)
  values_pass x found =
      let parsed = p.parsed (p.from.globals ∙ globals) in
      let got = entry_by_id (EntryPasses p.built) (found_of m).entries.items id x parsed.values found in
      let key : got.0.0.now ≡ id = (bytes_eq-Decides got.0.0.now id).0 got.2 in
      let none = no_group got.0 key got.3 in (
        elim got.3.0 [
          | inl g ↦ absurd (none g)
          | inr vals ↦ subst (λ (y : MatchedArg). All (λ v. Accepts false parser v.now) y.vals.items) got.1
              (λ j e lt. accepts got.0.0.now (slice_index_or got.0.1.vals.items j e).now key (vals j e lt))
        ],
        elim got.3.4 [
          | inl g ↦ absurd (none g)
          | inr h ↦
              let same : bytes_eq h.1.id.now id ≡ true = subst (λ (u : Text). bytes_eq h.1.id.now u ≡ true) key h.4.0 in
              let s = same_rules_by_id old m p place d is.within is.only is.own h.0 h.1 h.2 h.3 same in
              ap (λ (y : MatchedArg). y.reading) (sym got.1)
              ∙ (sym h.4.1 ∙ ap reading_of (ap parser_of_value (s.parser parser is.reads)))
        ],
      )

  has_value : HasDefault old place d → (x : MatchedArg) → matched_of (found_of m) id ≡ Some x → 0 < length x.vals.items
  has_value usual x found =
      let parsed = p.parsed (p.from.globals ∙ globals) in
      let got = entry_by_id (EntryPasses p.built) (found_of m).entries.items id x parsed.values found in
      let key : got.0.0.now ≡ id = (bytes_eq-Decides got.0.0.now id).0 got.2 in
      let none = no_group got.0 key got.3 in
      elim got.3.1 [
        | inl g ↦ absurd (none g.0)
        | inr (inl v) ↦ subst (λ (y : MatchedArg). 0 < length y.vals.items) got.1 v
        | inr (inr (inl h)) ↦
            let any = h.1 in
            let same : bytes_eq any.1.id.now id ≡ true =
            subst (λ (u : Text). bytes_eq any.1.id.now u ≡ true) key any.4.0 in
            let s = same_rules_by_id old m p place d is.within is.only is.own any.0 any.1 any.2 any.3 same in
            let set : any.1.action ≡ Some Set = s.action Set usual.action in
            let bad : Set ≡ Count = rw set at any.4.1 in
            cc
        | inr (inr (inr h)) ↦
            let same : bytes_eq h.1.id.now id ≡ true = subst (λ (u : Text). bytes_eq h.1.id.now u ≡ true) key h.4.0 in
            let s = same_rules_by_id old m p place d is.within is.only is.own h.0 h.1 h.2 h.3 same in
            elim h.4.1 [
              | inl none ↦
                  let one = s.least usual.action usual.one in
                  absurd (omega arith)
              | inr has ↦
                  let bad : false ≡ true = rw (s.val_delim, usual.whole) at has in
                  cc
            ]
      ]

  -- a text that is found of the option passes its parser
  pub text_passes : reading_of parser ≡ AsWritten → (t : Text) → one_text (found_of m) id ≡ Some t
      → Accepts false parser t
  text_passes plain t read = go (matched_of (found_of m) id) refl
    where
      go : (o : Option MatchedArg) → matched_of (found_of m) id ≡ o → Accepts false parser t
      go None e = let bad : None ≡ Some t = rw e at read in cc
      go (Some x) e =
          let pass = values_pass x e in
          first_holds (Accepts false parser) x.reading x.vals.items (pass.1 ∙ plain) pass.0 t (rw e at read)

  -- an option with a default has one
  pub has_text : reading_of parser ≡ AsWritten → HasDefault old place d
      → (t : Text) × (one_text (found_of m) id ≡ Some t) × Accepts false parser t
  has_text plain usual =
      let has =
      is_among (found_of m).entries.items id (default_present old m p globals place d is.within usual.wants) in
      go (matched_of (found_of m) id) refl has
    where
      go : (o : Option MatchedArg) → matched_of (found_of m) id ≡ o → is_some (matched_of (found_of m) id) ≡ true
          → (t : Text) × (one_text (found_of m) id ≡ Some t) × Accepts false parser t
      go None e has = let bad : false ≡ true = rw e at has in cc
      go (Some x) e has =
          let first = has_first x.reading x.vals.items (has_value usual x e) in
          let read : one_text (found_of m) id ≡ Some first.0 = rw e first.1 in
          (first.0, read, text_passes plain first.0 read)
