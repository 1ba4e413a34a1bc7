-- What came, and what is said of it. Assumes nothing.
use Rattle.std.proofs.Common.{◌≡◌, ℕ, ◌≤◌, ◌<◌, List, [], false, Option, Result, Ok, Err, refl, sym, ap, ◌∙◌, arith, rules, length, take, length-take-le}
use Rattle.std.proofs.lemmas.Bool.{true≢false}
use Rattle.std.specs.Io.KnownBytes.{Consumes, IsAtEnd}
use Rattle.law.specs.Words.{pick}
use Rattle.text.specs.Text.{Text}
use Rattle.text.proofs.Texts.{text_none}
use Rattle.printed.specs.Program.{printed}
use Rattle.input.specs.declared.ReadFailed.{ReadFailed}
use Rattle.input.specs.Got.{Got, got}
use Rattle.input.specs.Reads.{Delivered}
use Rattle.account.specs.Answered.{seen_bytes, Answered}

same_error : (e f : ReadFailed) (r : Result ℕ ReadFailed) → r ≡ Err e → r ≡ Err f → f.count ≡ e.count
same_error e f r p q = search rules

no_error : (k : ℕ) (f : ReadFailed) → Ok k ≡ Err f → (n : ℕ) → f.count ≡ n
no_error k f same n = search rules

module _ {R : Type 0} (remaining : R → Option (List ℕ)) (reader reader' : R) (old new text : List ℕ) (l : length new ≡ seen_bytes) where
  pub nothing_said : (e : ReadFailed) → Delivered remaining seen_bytes reader reader' old new (got (Err e))
      → Consumes (remaining reader) (remaining reader') (take e.count new) → Answered remaining reader reader' old new text text (Err e)
  unfolding pick
  nothing_said e d consumed =
      record {
        bytes = take e.count new;
        reads = d.reads;
        long = l;
        consumed = consumed;
        ended = λ none fewer. absurd (true≢false none);
        says = text_none [] text refl;
        most = omega arith;
        came = λ f same. same_error e f (Err e) refl same ∙ sym (length-take-le e.count new d.most);
      }

  pub said : (text' : List ℕ) (n k : ℕ) → Delivered remaining seen_bytes reader reader' old new (got (Ok n)) → Consumes (remaining reader) (remaining reader') (take n new)
      → (n < length new → IsAtEnd (remaining reader')) → Text (printed (take n new)) text text' k → k ≤ length text'
      → Answered remaining reader reader' old new text text' (Ok k)
  unfolding pick
  said text' n k d consumed ended t m =
      record {
        bytes = take n new;
        reads = d.reads;
        long = l;
        consumed = consumed;
        ended = λ none fewer. ended (omega (arith, fewer, l, length-take-le n new d.most));
        says = t;
        most = m;
        came = λ f same. no_error k f same _;
      }
