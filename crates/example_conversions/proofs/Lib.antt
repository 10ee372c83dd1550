mod MotionSteps
