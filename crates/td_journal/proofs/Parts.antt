-- A holder's part of a list of commands, done by itself.
use Rattle.std.proofs.Common.{◌≡◌, ◌≢◌, ℕ, List, [], ◌∷◌, Option, None, Some, eq-eqb, eqb-true, refl, sym, ◌∙◌, ap}
use Rattle.std.specs.Prelude.{Bool, true, false, if◌then◌else◌}
use Rattle.td_answers.specs.Answers.{said_body}
use Rattle.td_commands.specs.Commands.{owner_of}
use Rattle.td_commands.specs.declared.command.Command.{Command}
use Rattle.td_commands.specs.declared.command.Stamped.{Stamped}
use Rattle.td_model.specs.Account.{Account}
use Rattle.td_model.specs.Book.{account_of, fresh_book}
use Rattle.td_model.specs.Machine.{book_after}
use Rattle.td_model.specs.Table.{said}
use Rattle.td_model.specs.Content.{Content, account_in}
use Rattle.td_desk.specs.Runs.{is_holder, part}
use Rattle.td_acts.specs.Weighing.{Carries, kept_for, owner_account}
use Rattle.td_acts.proofs.Fresh.{owner_account_is_kept}
use Rattle.td_journal.specs.Parts.{AreTold, PartTellsTheSame, own_replies, reply_over}

owned : (H : ℕ) (o : Option ℕ) → is_holder H o ≡ true → o ≡ Some H
owned H None is = cc
owned H (Some owner) is = ap (λ n. Some n) (eqb-true owner H is)

not_owned : (H : ℕ) (o : Option ℕ) → is_holder H o ≡ false → o ≢ Some H
not_owned H o is other = both (ap (is_holder H) other ∙ itself) is
  where
    itself : is_holder H (Some H) ≡ true
    itself = eq-eqb H H refl

    both : is_holder H o ≡ true → is_holder H o ≡ false → ⊥
    both one other = cc

module _ (country : List ℕ) (H : ℕ) where
  -- what is said to a command of H rests on what the content has of H
  same_account : (c d : Content) (command : Command) → c.country ≡ country → d.country ≡ country → account_in H c ≡ account_in H d
      → owner_of country command ≡ Some H → owner_account c command ≡ owner_account d command
  same_account c d command here there same owns =
      owner_account_is_kept c command ∙ ap (λ k. kept_for (owner_of k command) c) here ∙ ap (λ o. kept_for o c) owns
      ∙ same
      ∙ sym (owner_account_is_kept d command ∙ ap (λ k. kept_for (owner_of k command) d) there ∙ ap (λ o. kept_for o d) owns)

  -- and so does what it leaves of H
  same_after : (c d after other : Content) (s : Stamped) → c.country ≡ country → d.country ≡ country → account_in H c ≡ account_in H d
      → owner_of country s.command ≡ Some H → Carries c s after → Carries d s other → account_in H after ≡ account_in H other
  same_after c d after other s here there same owns one two =
      one.own H (ap (λ k. owner_of k s.command) here ∙ owns)
      ∙ ap (λ (a : Account). account_of H (book_after H (fresh_book a) s)) same
      ∙ sym (two.own H (ap (λ k. owner_of k s.command) there ∙ owns))

  part_told : (list : List Stamped) (c d end other_end : Content) (replies others : List (List ℕ))
      → c.country ≡ country → d.country ≡ country → account_in H c ≡ account_in H d
      → AreTold c list replies end → AreTold d (part country H list) others other_end → others ≡ own_replies country H list replies
  part_told [] c d end other_end replies others here there same told part_is = part_is.0
  part_told (s ∷ list) c d end other_end replies others here there same (after, rest, are, carries, more) part_is =
      by_owner (part_told list) (is_holder H (owner_of country s.command)) refl
    where
      by_owner : ((c d end other_end : Content) (replies others : List (List ℕ)) → c.country ≡ country → d.country ≡ country → account_in H c ≡ account_in H d
          → AreTold c list replies end → AreTold d (part country H list) others other_end → others ≡ own_replies country H list replies)
          → (b : Bool) → is_holder H (owner_of country s.command) ≡ b → others ≡ own_replies country H (s ∷ list) replies
      by_owner rest_told true is =
          let owns : owner_of country s.command ≡ Some H = owned H (owner_of country s.command) is in
          let told : AreTold d (s ∷ part country H list) others other_end = rw is at part_is in
          let same_reply : reply_over c s ≡ reply_over d s =
          ap (λ (a : Account). said_body (said a s.at s.command)) (same_account c d s.command here there same owns) in
          let rest_is : told.1 ≡ own_replies country H list rest =
          rest_told after told.0 end other_end rest told.1 (carries.country ∙ here) (told.3.country ∙ there)
          (same_after c d after told.0 s here there same owns carries told.3) more told.4 in
          told.2 ∙ ap (λ r. r ∷ told.1) (sym same_reply) ∙ ap (λ l. reply_over c s ∷ l) rest_is
          ∙ sym (ap (own_replies country H (s ∷ list)) are
          ∙ ap (λ b. if b then reply_over c s ∷ own_replies country H list rest else own_replies country H list rest) is)
      by_owner rest_told false is =
          let told : AreTold d (part country H list) others other_end = rw is at part_is in
          let other : owner_of c.country s.command ≢ Some H = (λ owns. not_owned H (owner_of country s.command) is (ap (λ k. owner_of k s.command) (sym here) ∙ owns)) in
          rest_told after d end other_end rest others (carries.country ∙ here) there (carries.others H other ∙ same) more told
          ∙ sym (ap (own_replies country H (s ∷ list)) are
          ∙ ap (λ b. if b then reply_over c s ∷ own_replies country H list rest else own_replies country H list rest) is)

pub part_tells_the_same : PartTellsTheSame
part_tells_the_same country H c d end other_end list replies others here there same told part_is =
    part_told country H list c d end other_end replies others here there same told part_is
