-- K1 to K10, and words heard unclearly: each claim holds, by computing both sides.
-- Assumes nothing.
use mathlib.Core.Path.{refl}
use Rattle.model.specs.Examples.{AllHold, AllHoldIn, the_files, K1, K2, K3, K4, K5, K6, K7, K8, K9, K10, lone_variable, wide_component, unclear_words, examples}

the_files_hold : AllHold the_files
the_files_hold = (refl, (refl, (refl, (refl, (refl, (refl, tt))))))

K1_hold : AllHold K1
K1_hold = (refl, (refl, tt))

K2_hold : AllHold K2
K2_hold = (refl, tt)

K3_hold : AllHold K3
K3_hold = (refl, (refl, tt))

K4_hold : AllHold K4
K4_hold = (refl, (refl, (refl, (refl, (refl, tt)))))

K5_hold : AllHold K5
K5_hold = (refl, (refl, tt))

K6_hold : AllHold K6
K6_hold = (refl, tt)

K7_hold : AllHold K7
K7_hold = (refl, (refl, (refl, tt)))

K8_hold : AllHold K8
K8_hold = (refl, (refl, tt))

K9_hold : AllHold K9
K9_hold = (refl, (refl, (refl, tt)))

K10_hold : AllHold K10
K10_hold = (refl, tt)

lone_variable_hold : AllHold lone_variable
lone_variable_hold = (refl, tt)

wide_component_hold : AllHold wide_component
wide_component_hold = (refl, tt)

unclear_words_hold : AllHold unclear_words
unclear_words_hold = (refl, (refl, (refl, (refl, (refl, (refl, (refl, (refl, tt))))))))

-- one theorem for the list
pub examples_hold : AllHoldIn examples
examples_hold =
    (the_files_hold, (K1_hold, (K2_hold, (K3_hold, (K4_hold, (K5_hold, (K6_hold, (K7_hold, (K8_hold, (K9_hold, (K10_hold, (lone_variable_hold, (wide_component_hold, (unclear_words_hold, tt))))))))))))))
