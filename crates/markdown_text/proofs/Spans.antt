-- What is written is of constructs that are on.
use Rattle.std.proofs.Common.{List, [], subst, sym, true, ◌++◌, ◌∷◌, ◌≡◌}
use Rattle.event_writer.specs.Written.{Written}
use Rattle.markdown_acceptance.specs.Calls.{AfterToken, Closed, Opened, exit_of}
use Rattle.markdown_acceptance.specs.declared.open_spans.Frame.{Frame}
use Rattle.markdown_events.specs.Forest.{enter, exit}
use Rattle.markdown_events.specs.declared.event.Event.{Event}
use Rattle.markdown_events.specs.declared.event.Name.{Name}
use Rattle.markdown_events.specs.declared.event.Point.{Point}
use Rattle.markdown_options.specs.Spans.{AreOn, is_on}
use Rattle.markdown_options.specs.declared.Constructs.{Constructs}
use Rattle.markdown_text.specs.Spans.{AreOpenOn, IsWithin}

-- events after others
pub all_on : (c : Constructs) (es fs : List Event) → AreOn c es → AreOn c fs → AreOn c (es ++ fs)
all_on c [] fs es-on fs-on = fs-on
all_on c (e ∷ es) fs es-on fs-on = (es-on.0, all_on c es fs es-on.1 fs-on)

-- more events, with the same spans open
more : {R : Type 0} (c : Constructs) (old new : Written R) (es : List Event) → IsWithin c old → AreOn c es → new.events ≡ old.events ++ es → AreOpenOn c new.spans.frames → IsWithin c new
more c old new es within on events spans = record { events = subst (AreOn c) (sym events) (all_on c old.events es within.events on); spans = spans }

-- a span has begun
pub begun_on : {R : Type 0} (c : Constructs) (old new : Written R) (name : Name) (point : Point) → IsWithin c old → is_on c name ≡ true → new.events ≡ old.events ++ enter name point ∷ [] → Opened name point old.spans new.spans → IsWithin c new
begun_on c old new name point within on events opened = more c old new (enter name point ∷ []) within (on, tt) events (subst (AreOpenOn c) (sym opened.frames) (on, within.spans))

-- the exit of the innermost one
exit_on : (c : Constructs) (end : Point) (frames : List Frame) → AreOpenOn c frames → AreOn c (elim frames as (λ _. List Event) [ [] ↦ [] | f ∷ _ ↦ exit f.name end ∷ [] ])
exit_on c end [] on = tt
exit_on c end (f ∷ fs) on = (on.0, tt)

-- it has ended
pub exited_on : {R : Type 0} (c : Constructs) (old new : Written R) (end : Point) → IsWithin c old → new.events ≡ old.events ++ exit_of old.spans end → Closed old.spans new.spans → IsWithin c new
exited_on c old new end within events closed =
    more c old new (exit_of old.spans end) within (exit_on c end old.spans.frames within.spans) events (subst (AreOpenOn c) closed.frames within.spans).1

-- a token has been written
pub written_on : {R : Type 0} (c : Constructs) (old new : Written R) (name : Name) (start end : Point) → IsWithin c old → is_on c name ≡ true → new.events ≡ old.events ++ enter name start ∷ exit name end ∷ [] → AfterToken name old.spans new.spans → IsWithin c new
written_on c old new name start end within on events after = more c old new (enter name start ∷ exit name end ∷ []) within (on, (on, tt)) events (subst (AreOpenOn c) (sym after.frames) within.spans)
