-- Where the lightest list of all is not below zero no list is. Assumes nothing.
use Rattle.model.proofs.Basics.{sym, ◌∙◌}
use Rattle.model.proofs.Theory.Loads.{lightest_passes}
use Rattle.essential.proofs.too_light.Goals as goal

-- the lightest list holds
pub returns-else-lightest_too_light : goal.returns-else-lightest_too_light
returns-else-lightest_too_light c =
    c.if-lightest_too_light.false ∙ sym (lightest_passes _ (sym c.lightest_too_light.ensures ∙ c.if-lightest_too_light.false))
