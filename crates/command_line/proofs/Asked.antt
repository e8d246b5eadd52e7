-- Which question the flags ask.
use Rattle.std.proofs.Common.{◌≡◌, ℕ, Bool, true, false, List, Some, None, refl, codes, sym, ◌∙◌}
use Rattle.clap.specs.Walk.{Row}
use Rattle.question_model.specs.declared.question.Question.TheVariants.{Decide, Enough, EnoughLines, FailingSets}
use Rattle.question_model.specs.declared.question.Question.TheVariants.{Search, SearchRules}
use Rattle.command_line.specs.Said.{IsFlag, IsQuestionSaid, number_said}

pub decided : (rows : List Row) (decide : Bool) → IsFlag (codes "decide") rows decide → decide ≡ true
    → IsQuestionSaid rows Decide
decided rows decide d is = record {
  decide = λ on. refl;
  search = λ off e n said. let apart : decide ≡ false = d.1 off in cc;
  search_rules = λ off e n said. let apart : decide ≡ false = d.1 off in cc;
  enough = λ off none e s. let apart : decide ≡ false = d.1 off in cc;
  lines = λ off none e s. let apart : decide ≡ false = d.1 off in cc;
  sets = λ off none e n said. let apart : decide ≡ false = d.1 off in cc;
}

module _ (rows : List Row) (decide enough : Bool) (d : IsFlag (codes "decide") rows decide)
    (e : IsFlag (codes "enough") rows enough) (not_decided : decide ≡ false) where
  pub searched_rules : (n : ℕ) → enough ≡ true → number_said (codes "search") rows ≡ Some n
      → IsQuestionSaid rows (SearchRules n)
  searched_rules n on_too is = record {
    decide = λ on. let apart : decide ≡ true = d.0 on in cc;
    search = λ off without k said. let apart : enough ≡ false = e.1 without in cc;
    search_rules = λ off with k said. let same : Some n ≡ Some k = sym is ∙ said in cc;
    enough = λ off none with alone. let apart : Some n ≡ None = sym is ∙ none in cc;
    lines = λ off none with both. let apart : Some n ≡ None = sym is ∙ none in cc;
    sets = λ off none without k said. let apart : Some n ≡ None = sym is ∙ none in cc;
  }

  pub searched : (n : ℕ) → enough ≡ false → number_said (codes "search") rows ≡ Some n → IsQuestionSaid rows (Search n)
  searched n alone_off is = record {
    decide = λ on. let apart : decide ≡ true = d.0 on in cc;
    search = λ off without k said. let same : Some n ≡ Some k = sym is ∙ said in cc;
    search_rules = λ off with k said. let apart : enough ≡ true = e.0 with in cc;
    enough = λ off none with alone. let apart : Some n ≡ None = sym is ∙ none in cc;
    lines = λ off none with both. let apart : Some n ≡ None = sym is ∙ none in cc;
    sets = λ off none without k said. let apart : Some n ≡ None = sym is ∙ none in cc;
  }

  pub enough_lines : (syncs : Bool) → IsFlag (codes "syncs") rows syncs → syncs ≡ true → enough ≡ true
      → number_said (codes "search") rows ≡ None → IsQuestionSaid rows EnoughLines
  enough_lines syncs s waits on_too is = record {
    decide = λ on. let apart : decide ≡ true = d.0 on in cc;
    search = λ off without k said. let apart : None ≡ Some k = sym is ∙ said in cc;
    search_rules = λ off with k said. let apart : None ≡ Some k = sym is ∙ said in cc;
    enough = λ off none with alone. let apart : syncs ≡ false = s.1 alone in cc;
    lines = λ off none with both. refl;
    sets = λ off none without k said. let apart : enough ≡ false = e.1 without in cc;
  }

  pub enough_rules : (syncs : Bool) → IsFlag (codes "syncs") rows syncs → syncs ≡ false → enough ≡ true
      → number_said (codes "search") rows ≡ None → IsQuestionSaid rows Enough
  enough_rules syncs s waits on_too is = record {
    decide = λ on. let apart : decide ≡ true = d.0 on in cc;
    search = λ off without k said. let apart : None ≡ Some k = sym is ∙ said in cc;
    search_rules = λ off with k said. let apart : None ≡ Some k = sym is ∙ said in cc;
    enough = λ off none with alone. refl;
    lines = λ off none with both. let apart : syncs ≡ true = s.0 both in cc;
    sets = λ off none without k said. let apart : enough ≡ false = e.1 without in cc;
  }

  pub failing_sets : (limit : ℕ) → enough ≡ false → number_said (codes "search") rows ≡ None
      → number_said (codes "limit") rows ≡ Some limit → IsQuestionSaid rows (FailingSets limit)
  failing_sets limit off_too is most = record {
    decide = λ on. let apart : decide ≡ true = d.0 on in cc;
    search = λ off without k said. let apart : None ≡ Some k = sym is ∙ said in cc;
    search_rules = λ off with k said. let apart : None ≡ Some k = sym is ∙ said in cc;
    enough = λ off none with alone. let apart : enough ≡ true = e.0 with in cc;
    lines = λ off none with both. let apart : enough ≡ true = e.0 with in cc;
    sets = λ off none without k said. let same : Some limit ≡ Some k = sym most ∙ said in cc;
  }
