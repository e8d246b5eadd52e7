-- What `clap` promises of the values of the program's options.
use Rattle.std.proofs.Common.{◌≡◌, ◌∙◌, ℕ, false, List, [], ◌∷◌, map, Option, Some, None, refl, sym, ap, subst, arith}
use Rattle.std.proofs.Common.{codes}
use Rattle.std.specs.List.{list_all, list_any, slice_index_or}
use Rattle.std.specs.Str.{bytes_eq}
use Rattle.clap.specs.Built.{BuildsTo, IsParsedFrom}
use Rattle.clap.specs.Facts.{args_of, groups_of, IsParsed as IsParsedByClap}
use Rattle.clap.specs.Matches.{first_value, found_of, has_subcommand, matched_of}
use Rattle.clap.specs.Simple.{App, IsSimple, is_ready, is_ready_leaf}
use Rattle.clap.specs.Values.{Accepts, reading_of}
use Rattle.clap.specs.Walk.{Rule, Text, first_of, one_of, rows_of, rule_of}
use Rattle.clap.specs.declared.builder.arg.Arg.{Arg}
use Rattle.clap.specs.declared.builder.command.Command.{Command}
use Rattle.clap.specs.declared.builder.command.Command.TheViews.{out-Command}
use Rattle.clap.specs.declared.builder.value_parser.Reading.TheVariants.{AsWritten}
use Rattle.clap.specs.declared.builder.value_parser.ValueParser.{ValueParser}
use Rattle.clap.specs.declared.builder.value_parser.ValueParser.TheVariants.{Names, Unsigned}
use Rattle.clap.specs.declared.parser.matches.ArgMatches.{ArgMatches}
use Rattle.clap.specs.declared.parser.matches.MatchedArg.{MatchedArg}
use Rattle.clap.proofs.SimpleLemmas.{all_simple, ready_simple, simple_groups}
use Rattle.clap.proofs.WalkLemmas.{first_value-rows, list_any-map, one_text-rows}
use Rattle.command_line.specs.Options.{IsProgram, bound, number, program, usually, value}
use Rattle.command_line.specs.Said.{IsNumberWithin, IsParsed}
use Rattle.command_line.proofs.Checked.{first_holds, has_default, has_text, text_passes, values_pass}
use Rattle.command_line.proofs.Places.{IsPlaced, placed}

some_argument : (xs : List Arg) (r : Rule) (rs : List Rule) → map rule_of xs ≡ r ∷ rs → Arg
some_argument [] r rs is = cc
some_argument (x ∷ xs) r rs is = x

module _ (old : Command) (m : ArgMatches) (p : IsParsedFrom old m) (globals : (out-Command old).has_globals ≡ false)
    (no_groups : groups_of p.built ≡ []) (simple : IsSimple old) (d : Arg) where
  -- an option that has a number by default has one in its range
  number_within : (place : ℕ) (name usual : Text) (least most : ℕ)
      → IsPlaced old place d (usually usual (number name least most)) (Unsigned least most)
      → IsNumberWithin least most name (rows_of (found_of m))
  number_within place name usual least most is =
      let rule = usually usual (number name least most) in
      let has = has_text old m p globals no_groups place d rule (Unsigned least most) is refl
      (has_default old place d rule (Unsigned least most) usual simple is refl refl refl) in
      let id : (slice_index_or (args_of old) place d).id.now ≡ name = ap (λ (r : Rule). r.id) is.same in
      let read = subst (λ (t : Text). one_of t (rows_of (found_of m)) ≡ Some has.0) id
      (sym (one_text-rows (found_of m) (slice_index_or (args_of old) place d).id.now) ∙ has.1) in
      (has.0, read, has.2)

  -- a text that is read of an option passes its parser
  text_taken : (place : ℕ) (rule : Rule) (parser : ValueParser) → IsPlaced old place d rule parser
      → reading_of parser ≡ AsWritten → (t : Text) → one_of rule.id (rows_of (found_of m)) ≡ Some t
      → Accepts false parser t
  text_taken place rule parser is plain t read =
      let id : (slice_index_or (args_of old) place d).id.now ≡ rule.id = ap (λ (r : Rule). r.id) is.same in
      text_passes old m p globals no_groups place d rule parser is plain t
      (one_text-rows (found_of m) (slice_index_or (args_of old) place d).id.now
      ∙ subst (λ (u : Text). one_of u (rows_of (found_of m)) ≡ Some t) (sym id) read)

  first_taken : (place : ℕ) (rule : Rule) (parser : ValueParser) → IsPlaced old place d rule parser
      → (t : Text) → first_of rule.id (rows_of (found_of m)) ≡ Some t → Accepts false parser t
  first_taken place rule parser is t read =
      let id : (slice_index_or (args_of old) place d).id.now ≡ rule.id = ap (λ (r : Rule). r.id) is.same in
      go (matched_of (found_of m) (slice_index_or (args_of old) place d).id.now) refl
      (first_value-rows (found_of m) (slice_index_or (args_of old) place d).id.now
      ∙ subst (λ (u : Text). first_of u (rows_of (found_of m)) ≡ Some t) (sym id) read)
    where
      go : (o : Option MatchedArg) → matched_of (found_of m) (slice_index_or (args_of old) place d).id.now ≡ o
          → first_value (found_of m) (slice_index_or (args_of old) place d).id.now ≡ Some t → Accepts false parser t
      go None e has = let bad : None ≡ Some t = rw e at has in cc
      go (Some x) e has =
          let pass = values_pass old m p globals no_groups place d rule parser is x e in
          first_holds (Accepts false parser) AsWritten x.vals.items refl pass.0 t (rw e at has)

-- what holds of the program's options where `clap` takes the words
pub parsed_by : (old new : Command) (m : ArgMatches) → IsProgram old → BuildsTo old new
    → ((out-Command new).has_globals ≡ false → IsParsedByClap new (found_of m) (has_subcommand m))
    → IsParsed (rows_of (found_of m))
parsed_by old new m (modules, takes, app) from parsed =
    let p : IsParsedFrom old m = record { built = new; from = from; parsed = parsed } in
    let rules : map rule_of (args_of old) ≡ (program modules).top.rules = ap (λ (a : App). a.top.rules) app in
    let simple : IsSimple old =
    ready_simple old (ap (λ (a : App). is_ready a.top) app) (ap (λ (a : App). list_all is_ready_leaf a.subs) app) in
    let no_groups : groups_of new ≡ [] =
    (from.same_groups (simple_groups old (ap (λ (a : App). all_simple a.top.rules) app))).1 ∙ simple.groups in
    let d = some_argument (args_of old) _ _ rules in
    let among : Rule = usually (codes "soft") (record (value (codes "module")) { parser = Some modules }) in
    record {
      blocks = number_within old m p simple.globals no_groups simple d 1 (codes "blocks") (codes "16") 16 128
          (placed old _ 1 d _ _ rules (omega arith) refl refl refl refl refl refl refl);
      journal = number_within old m p simple.globals no_groups simple d 2 (codes "journal") (codes "0") 0 122
          (placed old _ 2 d _ _ rules (omega arith) refl refl refl refl refl refl refl);
      limit = number_within old m p simple.globals no_groups simple d 13 (codes "limit") (codes "4096") 1 32768
          (placed old _ 13 d _ _ rules (omega arith) refl refl refl refl refl refl refl);
      workers = number_within old m p simple.globals no_groups simple d 14 (codes "workers") (codes "1") 1 16
          (placed old _ 14 d _ _ rules (omega arith) refl refl refl refl refl refl refl);
      search = text_taken old m p simple.globals no_groups simple d 18 (bound (number (codes "search") 1 8))
          (Unsigned 1 8) (placed old _ 18 d _ _ rules (omega arith) refl refl refl refl refl refl refl) refl;
      kind = λ t read.
          let by : Accepts false modules t = first_taken old m p simple.globals no_groups simple d 4 among modules
          (placed old _ 4 d among modules rules (omega arith) refl refl refl refl refl refl refl) t read in
          let named : Accepts false (Names takes.0) t = subst (λ (q : ValueParser). Accepts false q t) takes.1 by in
          ap (list_any (λ (name : Text). bytes_eq name t)) (sym takes.2)
          ∙ (sym (list_any-map (λ (name : Text). bytes_eq name t) (λ s. s.now) takes.0.now) ∙ named);
    }
