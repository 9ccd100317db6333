-- Proofs of the statements of specs/CjtValues.
use mathlib.Core.Path.{refl}
use lib.Count.{ones_in}
use Rattle.base_rules.specs.Lists.{any, total}
use Rattle.base_characters.specs.Characters.{odd, carrier}
use Rattle.base_digits.specs.Digits.{digits_of, packed}
use Rattle.base_characters.specs.Flips.{flip_bit, flips}
use Rattle.cjt_rules.specs.CjtFrames.{past_fe}
use Rattle.cjt_rules.specs.CjtLines.{read_cjt_frame, read_cjt_line}
use Rattle.cjt_rules.specs.CjtWriting.{cjt_line_of, unwritten}
use Rattle.demands.specs.CjtValues.{CjtValuesHold}

pub cjt_values_hold : CjtValuesHold
unfolding read_cjt_line read_cjt_frame past_fe any odd ones_in carrier total digits_of cjt_line_of packed unwritten flips flip_bit
cjt_values_hold = (
  refl,
  (
    refl,
    (
      refl,
      (
        refl,
        (
          refl,
          (
            refl,
            (
              refl,
              (
                refl,
                (
                  refl,
                  (
                    refl,
                    (
                      refl,
                      (
                        refl,
                        (
                          refl,
                          (
                            refl,
                            (
                              refl,
                              (
                                refl,
                                (
                                  refl,
                                  (
                                    refl,
                                    (
                                      refl,
                                      (
                                        refl,
                                        (
                                          refl,
                                          (refl, (refl, (refl, (refl, (refl, tt))))),
                                        ),
                                      ),
                                    ),
                                  ),
                                ),
                              ),
                            ),
                          ),
                        ),
                      ),
                    ),
                  ),
                ),
              ),
            ),
          ),
        ),
      ),
    ),
  ),
)
