use Rattle.std.proofs.Common.{◌≡◌, ◌∙◌, ◌||◌, Bool, true, false, codes, refl, sym}
use Rattle.std.specs.List.{list_any}
use Rattle.std.specs.Str.{bytes_eq}
use Rattle.std.proofs.lemmas.Slice.Eq.{bytes_eq-Decides}
use Rattle.clap.specs.Words.{Text, found_of}
use Rattle.command_line.specs.Options.{module_words}
use Rattle.command_line.proofs.Read.{no_text_got, text_got}
use Rattle.command_line.proofs.values.module_of.Goals as goal

second : (a b c d : Bool) → (a || (b || (c || (d || false)))) ≡ true → (a ≡ true → ⊥) → (c ≡ true → ⊥) → (d ≡ true → ⊥)
    → b ≡ true
second true b c d any a_out c_out d_out = absurd (a_out refl)
second false true c d any a_out c_out d_out = refl
second false false true d any a_out c_out d_out = absurd (c_out refl)
second false false false true any a_out c_out d_out = absurd (d_out refl)
second false false false false any a_out c_out d_out = any

-- a module's word that is none of the other three
soft_left : (t : Text) → list_any (λ (name : Text). bytes_eq name t) module_words ≡ true → (t ≡ codes "async" → ⊥)
    → (t ≡ codes "meta" → ⊥) → (t ≡ codes "full" → ⊥) → t ≡ codes "soft"
soft_left t any a m f =
    let apart = λ (other : Text) (none : t ≡ other → ⊥) (e : bytes_eq other t ≡ true).
    none (sym ((bytes_eq-Decides other t).0 e)) in
    let soft = second (bytes_eq (codes "async") t) (bytes_eq (codes "soft") t) (bytes_eq (codes "meta") t)
    (bytes_eq (codes "full") t) any (apart (codes "async") a) (apart (codes "meta") m) (apart (codes "full") f) in
    sym ((bytes_eq-Decides (codes "soft") t).0 soft)

pub returns-in-Some-async : goal.returns-in-Some-async
returns-in-Some-async c = λ t said.
    text_got (found_of c.args.matches.now) (codes "module") c.get_str.result c.in-Some-async.field-0 c.get_str.ensures
    c.in-Some-async.is t said ∙ c.in-Some-async.is-async

pub returns-in-Some-meta : goal.returns-in-Some-meta
returns-in-Some-meta c = λ t said.
    text_got (found_of c.args.matches.now) (codes "module") c.get_str.result c.in-Some-meta.field-0 c.get_str.ensures
    c.in-Some-meta.is t said ∙ c.in-Some-meta.is-meta

pub returns-in-Some-full : goal.returns-in-Some-full
returns-in-Some-full c = λ t said.
    text_got (found_of c.args.matches.now) (codes "module") c.get_str.result c.in-Some-full.field-0 c.get_str.ensures
    c.in-Some-full.is t said ∙ c.in-Some-full.is-full

pub returns-in_default : goal.returns-in_default
returns-in_default c = λ t said.
    let same = text_got (found_of c.args.matches.now) (codes "module") c.get_str.result c.in_default.field-0
    c.get_str.ensures c.in_default.is t said in
    soft_left t (c.requires.kind t said) (λ e. c.in_default.not-async (cc (same, e)))
    (λ e. c.in_default.not-meta (cc (same, e))) (λ e. c.in_default.not-full (cc (same, e)))

pub returns-in_default-2 : goal.returns-in_default-2
returns-in_default-2 c = λ t said.
    let none = no_text_got (found_of c.args.matches.now) (codes "module") c.get_str.result c.get_str.ensures
    c.in_default.is t said in
    absurd none
